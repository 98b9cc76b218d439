-- Declarators with initialisers, and declarations, are walked.
use Rattle.std.proofs.Common.{◌≡◌, ◌∙◌, ◌++◌, ◌↔◌, ◌⊎◌, ℕ, Bool, true, false, List, [], ◌∷◌, Option, Some, None, refl, sym, ap, subst, inl, inr, append_assoc}
use Rattle.std.specs.Prelude.{◌||◌, IfSome, is_some, slice_get, if◌then◌else◌}
use Rattle.std.specs.Option.{option_map}
use Rattle.std.proofs.lemmas.List.{append-nil}
use Rattle.lk_base.specs.declared.spot.Spot.{Spot}
use Rattle.lk_tree.specs.declared.declaration.Declare.{Declare}
use Rattle.lk_tree.specs.declared.declaration.Init.{Init}
use Rattle.lk_tree.specs.declared.declaration.InitDeclarator.{InitDeclarator}
use Rattle.lk_tree.specs.declared.specifiers.Storage.{Storage}
use Rattle.lk_types.proofs.GrowLemmas.{known_same, longer_same, longer_then}
use Rattle.lk_types.specs.Building.{IsLonger, IsTable}
use Rattle.lk_types.specs.Table.{IsKnown, Table}
use Rattle.lk_typed.specs.DeclarationRules as rule
use Rattle.lk_typed.specs.DeclarationRules.{InBlock, InDeclaration, is_static_object, type_in}
use Rattle.lk_typed.specs.Declarations.{completed, composite_type, declarator_adds, declarators_add, declared_as, elements_given, given_by, initialiser_adds, is_alone, may_lack_size, name_adds, named_additions, type_of_name}
use Rattle.lk_typed.specs.DeclaratorRules.{of_type}
use Rattle.lk_typed.specs.Entities as entities
use Rattle.lk_typed.specs.Entities.{NameDeclared, StandsAmong}
use Rattle.lk_typed.specs.Env.{Env, Additions, both, extend, look_up, nothing}
use Rattle.lk_typed.specs.Expressions.{declarator_found, specifiers_found}
use Rattle.lk_typed.specs.Faults.{Breach}
use Rattle.lk_typed.specs.HolderRules.{declaration_rules}
use Rattle.lk_typed.specs.InitialiserRules.{Object}
use Rattle.lk_typed.specs.Layers.{type_made}
use Rattle.lk_typed.specs.Meaning.{meaning}
use Rattle.lk_typed.specs.NodeParts.{declarators_in_turn, declared_left, initialiser_part, object_of, type_declared, type_without_size}
use Rattle.lk_typed.specs.NodeRules.{mark, struct_bound_rules, those_without_type}
use Rattle.lk_typed.specs.Nodes.{ADeclaration, ADeclarator, AnInitialiser, Declares, Left, NameUse, Placed, at}
use Rattle.lk_typed.specs.Parts.{perhaps, specifiers_parts}
use Rattle.lk_typed.specs.Stands.{Mark}
use Rattle.lk_typed.specs.Told.{DeclaratorTold, Named, SpecifierTold}
use Rattle.lk_typed.specs.Ty.{Ty}
use Rattle.lk_typed.specs.declared.members.Members.TheVariants.{Begun}
use Rattle.lk_names.specs.InScope.{InScope}
use Rattle.lk_rules.proofs.Kept.{broken_both, none_broken, the_lesser_is_kept}
use Rattle.lk_rules.proofs.Parts.{hiding_parts_in_turn, only_initialisers_hide}
use Rattle.lk_rules.specs.Keeping.{IsBroken, Kept, KeepsCodes}
use Rattle.lk_rules.specs.NodeLaws.{initialisers_in_turn}
use Rattle.lk_check_decl.specs.Twins.{given_of, scope_of}
use Rattle.lk_check_decl.specs.declared.initialisers.Target.{Target}
use Rattle.lk_check_decl.specs.declared.words.Given.{Given}
use Rattle.lk_check_decl.specs.declared.words.Scope.{Scope}
use Rattle.lk_check_decl.specs.declared.words.Scope.TheVariants.{File, Block}
use Rattle.lk_found.specs.Truth.{IsBegunAmong, NoTag}
use Rattle.lk_found.proofs.Environments.{extend_both}
use Rattle.lk_found.specs.Declarators.{codes_of_use, left_of, name_codes, use_codes}
use Rattle.lk_found.specs.Keepings.{Codes, KeepsAll, codes_at}
use Rattle.lk_found.specs.Specified.{breaches_in}
use Rattle.lk_found.specs.Findings.{mark_at}
use Rattle.lk_found.specs.declared.declarators.Asked.{Asked}
use Rattle.lk_found.specs.declared.declarators.DeclaratorFound.{DeclaratorFound}
use Rattle.lk_found.specs.declared.found.At.{At}
use Rattle.lk_found.specs.declared.gathered.Specified.{Specified}
use Rattle.lk_checker.specs.Moves.{IsSame, KeepsAt, IsFurther}
use Rattle.lk_checker.specs.States.{operand_in, IsIn, IsSound, StandsIn, kept_in}
use Rattle.lk_checker.specs.declared.checker.Checker.{Checker}
use Rattle.lk_check_walk.proofs.Truth.{truth_same, truth_then}
use Rattle.lk_check_walk.specs.Declarators.{FindsDeclarator, IsDeclared}
use Rattle.lk_check_walk.specs.Specifying.{Specifies}
use Rattle.lk_check_walk.specs.Walks.{Walks}
use Rattle.lk_check_unit.specs.Bodies.{IsPlain, WalksDeclaration}
use Rattle.lk_check_unit.specs.Declaring.{DeclaresName, KeepsBut, PutsDeclared, PutsTypes, WaitsIn, listed, type_recorded}
use Rattle.lk_check_unit.specs.InitDeclarators.{DeclaresAll, DeclaresOne, FindsName, HidesCodes, IsNamedAmong, IsToldBy, NameIsFound, PutsIfNamed, PutsPending, WalksNode}
use Rattle.lk_check_unit.specs.Initialising.{object_for}
use Rattle.lk_check_unit.specs.Later.{AreKnownPending, TellsNaming, WalksBut, WalksNaming, pending_codes, pending_rules}
use Rattle.lk_check_unit.specs.declared.declared.NameFound.{NameFound}
use Rattle.lk_check_unit.specs.declared.pending.Pending.{Pending}
use Rattle.lk_check_unit.proofs.Later.{codes_first, codes_turned, codes_turned_back, no_codes, node_closed, nodes_alone, nodes_first, nothing_left}
use Rattle.lk_check_unit.proofs.NamesTold.{found_behind, naming_both, naming_first, naming_none, naming_put_if_named, naming_still, naming_then, not_defined, truth_of_names}
use Rattle.lk_check_unit.proofs.Naming.{in_puts, pendings_stay, type_stays}
use Rattle.lk_check_unit.proofs.Walking.{extends_by_nothing, is_in_as, sound_as}

-- a declared name asks nothing of a struct that it would be a member of
pub no_bound : (env : Env) (scope : rule.Scope) (ss : List Storage) (given : rule.Given) (n : ℕ) (at_end : Env) (t : Option Ty) → of_type t (struct_bound_rules env (Declares scope ss given n at_end)) ≡ []
no_bound env scope ss given n at_end None = refl
no_bound env scope ss given n at_end (Some t) = refl

-- the codes of the name are all of its use
pub use_is_named : (at_end : Env) (old last : Kept) (ps : List Placed) (xs : List Codes) (m : Mark) (bs : List Breach) (more : List Codes) → bs ≡ [] →
    KeepsAll at_end old ps (xs ++ more) last → KeepsAll at_end old ps ((xs ++ codes_at m bs ∷ []) ++ more) last
use_is_named at_end old last ps xs m bs more none kept =
    subst (λ cs. KeepsAll at_end old ps ((xs ++ codes_at m cs ∷ []) ++ more) last) (sym none)
    (codes_turned_back at_end old last ps xs (codes_at m [] ∷ []) more (no_codes at_end old last ps m (xs ++ more) kept))

-- ---- one declarator

module _ (at_end env : Env) (c0 c1 c2 c3 : Checker) (scope : Scope) (ss : List Storage) (left : Option Ty) (d : InitDeclarator) (may : Bool) (found : NameFound) (target : Option Target) (hidden : Bool) where
  abbrev inner : DeclaratorTold
  inner = declarator_found d.declarator

  abbrev a : Additions
  a = inner.additions env

  abbrev made : Option Ty
  made = type_made env (may_lack_size ss d.init) left inner

  abbrev n : Additions
  n = named_additions (extend env a) (scope_of scope) ss (given_by d.init) d.init inner.name made

  abbrev behind_name : Env
  behind_name = extend env (both a n)

  abbrev without : Option Ty
  without = type_of_name (extend env a) (scope_of scope) ss inner.name made

  abbrev object : Option Object
  object = object_of (completed d.init without) (is_static_object (scope_of scope) ss)

  abbrev meant : NameUse
  meant = Declares (scope_of scope) ss (given_by d.init) (elements_given d.init without) at_end

  abbrev left_given : Left
  left_given = record { type = left; may_be_absent = may_lack_size ss d.init; behind = extend env a; use_of_name = meant; is_whole = true }

  abbrev part : List Placed
  part = perhaps behind_name (AnInitialiser object) d.init

  pub one_kept : ((others : List Placed) (later : List Codes) (last : Kept) →
      KeepsAll at_end (kept_in c1) others (use_codes left_given d.declarator made ++ later) last → KeepsAll at_end (kept_in c0) (at env (ADeclarator left_given d.declarator) ∷ others) later last) →
      NameIsFound at_end c1 c2 (extend env a) scope ss d made found → Walks at_end c2 c3 behind_name (initialiser_adds behind_name d.init) part →
      (others : List Placed) (more : List Codes) (last : Kept) → KeepsAll at_end (kept_in c3) others (pending_codes c2.types at_end (listed found.pending) ++ more) last →
      KeepsAll at_end (kept_in c0) ((at env (ADeclarator left_given d.declarator) ∷ part) ++ others) more last
  one_kept declared named walks others more last kept =
      declared (part ++ others) more last
      (use_is_named at_end (kept_in c1) last (part ++ others) (name_codes (extend env a) made meant inner.name) (mark d.declarator.spot d.declarator.ordinal)
      (of_type made (struct_bound_rules (extend env a) meant)) more (no_bound (extend env a) (scope_of scope) ss (given_by d.init) (elements_given d.init without) at_end made)
      (named.keeps (part ++ others) more last
      (nodes_first at_end (kept_in c2) (kept_in c3) last part others (pending_codes c2.types at_end (listed found.pending) ++ more) walks.keeps kept)))

-- ---- the parts of a declarator, by what the code is told of its specifiers

pub plain_stands : (checker : Checker) (env : Env) (asked : Asked) → asked.in_size ≡ false → IsPlain checker env → StandsIn checker (operand_in asked.in_size) env
plain_stands checker env asked size plain = record { is_in = plain.is_in; role = plain.role; in_size = size ∙ plain.in_size }

-- what is found of one, where it stands
record OneFound (at_end env : Env) (c0 c2 c3 : Checker) (scope : Scope) (told : SpecifierTold) (d : InitDeclarator) (found : NameFound) (hidden : Bool) : Type 0 where
  pub walks : Walks at_end c2 c3 (extend env (name_adds (scope_of scope) told env d)) (initialiser_adds (extend env (name_adds (scope_of scope) told env d)) d.init) (initialiser_part (scope_of scope) told env d)
  pub hides : (hidden ≡ true) ↔ IsBroken at_end (those_without_type (initialiser_part (scope_of scope) told env d))
  pub keeps : (others : List Placed) (more : List Codes) (last : Kept) → KeepsAll at_end (kept_in c3) others (pending_codes c2.types at_end (listed found.pending) ++ more) last →
      KeepsAll at_end (kept_in c0) ((at env (ADeclarator (declared_left (scope_of scope) told at_end env d) d.declarator) ∷ initialiser_part (scope_of scope) told env d) ++ others) more last
  pub declares : TellsNaming (IsNamedAmong (scope_of scope) told env (d ∷ [])) at_end c0 c2 (at env (ADeclarator (declared_left (scope_of scope) told at_end env d) d.declarator) ∷ [])

known_listed : (old new : Table) → IsTable old → IsLonger old new → (p : Option Pending) → AreKnownPending old (listed p) → AreKnownPending new (listed p)
known_listed old new good longer None known = known
known_listed old new good longer (Some p) known = (known_same old new good longer p.ty known.0, known.1)

module _ (c0 c1 c2 c3 : Checker) (scope : Scope) (specified : Specified) (d : InitDeclarator) (asked : Asked) (declared : DeclaratorFound) (found : NameFound) (target : Option Target) (static hidden : Bool)
    (size : asked.in_size ≡ false) (may : (init : Option Init) → is_some init ≡ is_some d.init → asked.may_be_absent ≡ may_lack_size specified.storages.items init)
    (finds : FindsDeclarator c0 c1 specified.ty d.declarator asked declared) (names : FindsName c1 c2 scope specified.storages.items d declared.ty found)
    (target_is : (table : Table) → object_for table target ≡ object_of (option_map (meaning table) found.ty) static) (static_is : static ≡ is_static_object (scope_of scope) specified.storages.items)
    (hides : HidesCodes c2 c3 target d.init hidden) where
  one_found : (at_end env : Env) (told : SpecifierTold) → IsPlain c0 env → IsToldBy c0.types specified told → IsTable c1.types → IsLonger c1.types c2.types → OneFound at_end env c0 c2 c3 scope told d found hidden
  one_found at_end env told plain is good longer =
      record {
        walks = walks;
        hides = hid;
        keeps = one_kept at_end env c0 c1 c2 c3 scope told.storages left d asked.may_be_absent found target hidden kept_so named walks;
        declares =
            let given = declared_left (scope_of scope) told at_end env d in
            naming_put_if_named NoTag (IsNamedAmong (scope_of scope) told env (d ∷ [])) at_end c0 c1 c2 (at env (ADeclarator given d.declarator) ∷ []) (declarator_found d.declarator).name
            (λ (n : Named). declared_as here (scope_of scope) told.storages (given_by d.init) d.init n.name n.ordinal made) (type_declared (scope_of scope) told env d) good longer (decl.records given) named.puts own_name;
      }
    where
      left : Option Ty
      left = type_in InDeclaration told

      here : Env
      here = extend env ((declarator_found d.declarator).additions env)

      made : Option Ty
      made = type_made env (may_lack_size told.storages d.init) left (declarator_found d.declarator)

      own_name : (n : Named) → (declarator_found d.declarator).name ≡ Some n → (ty : Ty) → type_declared (scope_of scope) told env d ≡ Some ty →
          (spot : Spot) × IsNamedAmong (scope_of scope) told env (d ∷ []) (record { is = declared_as here (scope_of scope) told.storages (given_by d.init) d.init n.name n.ordinal made; spot = spot; type = ty })
      own_name n has_name ty type = (
        n.spot,
        record {
          here = env;
          d = d;
          among = entities.StandsAmong.first;
          named = n;
          has_name = has_name;
          found =
              let a = (declarator_found d.declarator).additions env in
              let is = declared_as here (scope_of scope) told.storages (given_by d.init) d.init n.name n.ordinal made in
              ap (λ o. look_up (extend env (both a (named_additions here (scope_of scope) told.storages (given_by d.init) d.init o made))) n.name) has_name ∙ found_behind env a is;
          spot = refl;
          type = type;
        },
      )

      decl : IsDeclared at_end c0 c1 env specified.ty d.declarator asked declared
      decl = finds at_end env (plain_stands c0 env asked size plain)

      may_is : asked.may_be_absent ≡ may_lack_size told.storages d.init
      may_is = may d.init refl ∙ ap (λ s. may_lack_size s d.init) is.storages

      type_is : option_map (meaning c1.types) declared.ty ≡ type_made env (may_lack_size told.storages d.init) left (declarator_found d.declarator)
      type_is =
          decl.type ∙ (ap (λ m. type_made env m (option_map (meaning c0.types) specified.ty) (declarator_found d.declarator)) may_is ∙
          ap (λ t. type_made env (may_lack_size told.storages d.init) t (declarator_found d.declarator)) is.type)

      named : NameIsFound at_end c1 c2 here scope told.storages d (type_made env (may_lack_size told.storages d.init) left (declarator_found d.declarator)) found
      named =
          subst (λ t. NameIsFound at_end c1 c2 here scope told.storages d t found) type_is
          (subst (λ s. NameIsFound at_end c1 c2 here scope s d (option_map (meaning c1.types) declared.ty) found) is.storages (names at_end here decl.behind))

      there : Env
      there = extend env (name_adds (scope_of scope) told env d)

      plain2 : IsPlain c2 there
      plain2 =
          record {
            is_in = subst (IsIn c2)
                (extend_both env ((declarator_found d.declarator).additions env)
                (named_additions here (scope_of scope) told.storages (given_by d.init) d.init (declarator_found d.declarator).name (type_made env (may_lack_size told.storages d.init) left (declarator_found d.declarator))))
                named.behind;
            role = plain.role;
            in_size = plain.in_size;
          }

      object_is : object_for c2.types target ≡ object_of (type_declared (scope_of scope) told env d) (is_static_object (scope_of scope) told.storages)
      object_is =
          target_is c2.types ∙ (ap (λ t. object_of t static) named.type ∙
          ap (object_of (type_declared (scope_of scope) told env d)) (static_is ∙ ap (is_static_object (scope_of scope)) is.storages))

      walks : Walks at_end c2 c3 there (initialiser_adds there d.init) (initialiser_part (scope_of scope) told env d)
      walks = subst (λ o. Walks at_end c2 c3 there (initialiser_adds there d.init) (perhaps there (AnInitialiser o) d.init)) object_is (hides.walks at_end there plain2)

      hid : (hidden ≡ true) ↔ IsBroken at_end (those_without_type (initialiser_part (scope_of scope) told env d))
      hid = subst (λ o. (hidden ≡ true) ↔ IsBroken at_end (those_without_type (perhaps there (AnInitialiser o) d.init))) object_is (hides.hides at_end there plain2)

      used : NameUse
      used = Declares (scope_of scope) told.storages (given_by d.init) (elements_given d.init (type_without_size (scope_of scope) told env d)) at_end

      KeepsSo : Bool → Option Ty → Type 0
      KeepsSo m t = (others : List Placed) (later : List Codes) (last : Kept) → KeepsAll at_end (kept_in c1) others (codes_of_use env (left_of env m t d.declarator used) d.declarator ++ later) last →
          KeepsAll at_end (kept_in c0) (at env (ADeclarator (left_of env m t d.declarator used) d.declarator) ∷ others) later last

      kept_so : KeepsSo (may_lack_size told.storages d.init) left
      kept_so = subst (KeepsSo (may_lack_size told.storages d.init)) is.type (subst (λ m. KeepsSo m (option_map (meaning c0.types) specified.ty)) may_is (decl.keeps used))

  pub one_declared : (before after : List Pending) → IsSound c2 → IsFurther c0 c1 → IsFurther c1 c2 → IsLonger c2.types c3.types → AreKnownPending c2.types (listed found.pending) →
      (scope ≡ Block → found.pending ≡ None) → after ≡ before ++ listed found.pending → DeclaresOne c0 c3 scope specified d before after hidden
  one_declared before after sound2 further1 further2 longer known none are =
      record {
        puts = record { fresh = listed found.pending; are = are; known = known_listed c2.types c3.types sound2.ready.table_is longer found.pending known; none = λ block. ap listed (none block) };
        walks = λ at_end env told plain is.
            let f = one_found at_end env told plain is further1.sound.ready.table_is further2.longer in
            let na = name_adds (scope_of scope) told env d in
            record {
              longer = longer_then c0.types c1.types c3.types further1.longer (longer_then c1.types c2.types c3.types further2.longer longer);
              sound = f.walks.sound;
              outside = f.walks.outside ∙ (further2.outside ∙ further1.outside);
              begun = λ s b. f.walks.begun s (further2.begun s (further1.begun s b));
              behind = subst (IsIn c3) (extend_both env na (initialiser_adds (extend env na) d.init)) f.walks.behind;
              keeps = λ others more last kept.
                  f.keeps others more last
                  (subst (λ cs. KeepsAll at_end (kept_in c3) others (cs ++ more) last) (pendings_stay c2.types c3.types sound2.ready.table_is longer at_end (listed found.pending) known) kept);
              records = naming_then NoTag (IsNamedAmong (scope_of scope) told env (d ∷ [])) at_end c0 c2 c3 (at env (ADeclarator (declared_left (scope_of scope) told at_end env d) d.declarator) ∷ [])
                  (initialiser_part (scope_of scope) told env d) sound2.ready.table_is longer f.declares f.walks.records;
            };
        hides = λ at_end env told plain is. (one_found at_end env told plain is further1.sound.ready.table_is further2.longer).hides;
      }

-- ---- walks one after the other

pub but_then : (at_end : Env) (a b c : Checker) (env : Env) (x y : Additions) (ps qs : List Placed) (cs ds : List Codes) → WalksBut at_end a b env x ps cs → WalksBut at_end b c (extend env x) y qs ds →
    WalksBut at_end a c env (both x y) (ps ++ qs) (cs ++ ds)
but_then at_end a b c env x y ps qs cs ds p q =
    record {
      longer = longer_then a.types b.types c.types p.longer q.longer;
      sound = q.sound;
      outside = q.outside ∙ p.outside;
      begun = λ s is. q.begun s (p.begun s is);
      behind = subst (IsIn c) (extend_both env x y) q.behind;
      keeps = λ others more last kept.
          subst (λ rs. KeepsAll at_end (kept_in a) rs more last) (sym (append_assoc ps qs others))
          (p.keeps (qs ++ others) more last (q.keeps others (cs ++ more) last (codes_turned at_end (kept_in c) last others cs ds more kept)));
      records = truth_then at_end a b c ps qs p.sound.ready.table_is q.longer p.records q.records;
    }

pub but_none : (at_end : Env) (c : Checker) (env : Env) → IsSound c → IsIn c env → WalksBut at_end c c env nothing [] []
but_none at_end c env sound is_in =
    record {
      longer = longer_same c.types;
      sound = sound;
      outside = refl;
      begun = λ s is. is;
      behind = subst (IsIn c) (extends_by_nothing env) is_in;
      keeps = λ others more last kept. kept;
      records = truth_same at_end c c refl;
    }

-- the same where names are declared between the nodes
naming_walks_then : (One Two Own : NameDeclared → Type 0) (at_end : Env) (a b c : Checker) (env : Env) (x y : Additions) (ps qs : List Placed) (cs ds : List Codes) →
    ((name : NameDeclared) → One name → Own name) → ((name : NameDeclared) → Two name → Own name) → WalksNaming One at_end a b env x ps cs → WalksNaming Two at_end b c (extend env x) y qs ds →
    WalksNaming Own at_end a c env (both x y) (ps ++ qs) (cs ++ ds)
naming_walks_then One Two Own at_end a b c env x y ps qs cs ds of_one of_two p q =
    record {
      longer = longer_then a.types b.types c.types p.longer q.longer;
      sound = q.sound;
      outside = q.outside ∙ p.outside;
      begun = λ s is. q.begun s (p.begun s is);
      behind = subst (IsIn c) (extend_both env x y) q.behind;
      keeps = λ others more last kept.
          subst (λ rs. KeepsAll at_end (kept_in a) rs more last) (sym (append_assoc ps qs others))
          (p.keeps (qs ++ others) more last (q.keeps others (cs ++ more) last (codes_turned at_end (kept_in c) last others cs ds more kept)));
      records = naming_both NoTag One Two Own at_end a b c ps qs p.sound.ready.table_is q.longer of_one of_two p.records q.records;
    }

naming_walks_none : (Own : NameDeclared → Type 0) (at_end : Env) (c : Checker) (env : Env) → IsSound c → IsIn c env → WalksNaming Own at_end c c env nothing [] []
naming_walks_none Own at_end c env sound is_in =
    record {
      longer = longer_same c.types;
      sound = sound;
      outside = refl;
      begun = λ s is. is;
      behind = subst (IsIn c) (extends_by_nothing env) is_in;
      keeps = λ others more last kept. kept;
      records = naming_none NoTag Own at_end c c [] (truth_same at_end c c refl);
    }

-- one of the declarators, and one behind the first
among_one : {scope : rule.Scope} {told : SpecifierTold} {env here : Env} {d e : InitDeclarator} (ds : List InitDeclarator) → StandsAmong scope told env (d ∷ []) here e → StandsAmong scope told env (d ∷ ds) here e
among_one ds entities.StandsAmong.first = entities.StandsAmong.first
among_one ds (entities.StandsAmong.later never) = absurd (among_none never)
  where
    among_none : {scope : rule.Scope} {told : SpecifierTold} {env here : Env} {e : InitDeclarator} → StandsAmong scope told env [] here e → ⊥
    among_none never = elim never [ ]

named_one : (scope : rule.Scope) (told : SpecifierTold) (env : Env) (d : InitDeclarator) (ds : List InitDeclarator) (name : NameDeclared) → IsNamedAmong scope told env (d ∷ []) name →
    IsNamedAmong scope told env (d ∷ ds) name
named_one scope told env d ds name h =
    record { here = h.here; d = h.d; among = among_one ds h.among; named = h.named; has_name = h.has_name; found = h.found; spot = h.spot; type = h.type }

named_later : (scope : rule.Scope) (told : SpecifierTold) (env : Env) (d : InitDeclarator) (ds : List InitDeclarator) (name : NameDeclared) →
    IsNamedAmong scope told (extend env (declarator_adds scope told env d)) ds name → IsNamedAmong scope told env (d ∷ ds) name
named_later scope told env d ds name h =
    record { here = h.here; d = h.d; among = entities.StandsAmong.later h.among; named = h.named; has_name = h.has_name; found = h.found; spot = h.spot; type = h.type }

-- ---- all declarators

type_still : (old new : Checker) (specified : Specified) (told : SpecifierTold) → IsSound old → IsLonger old.types new.types → IfSome specified.ty (IsKnown old.types) →
    IsToldBy old.types specified told → IsToldBy new.types specified told
type_still old new specified told sound longer known is =
    record { storages = is.storages; type = type_stays old.types new.types sound.ready.table_is longer specified.ty known ∙ is.type }

-- those that are left are walked behind those before them
pub record DeclaratorsLeft (at_end env : Env) (c0 c : Checker) (scope : Scope) (told : SpecifierTold) (fresh : List Pending) (so_far : Bool) (all left : List InitDeclarator) : Type 0 where
  pub here : Env
  pub plain : IsPlain c here
  pub on : (new : Checker) (cs : List Codes) →
      WalksNaming (IsNamedAmong (scope_of scope) told here left) at_end c new here (declarators_add (scope_of scope) told here left) (declarators_in_turn at_end (scope_of scope) told here left) cs →
      WalksNaming (IsNamedAmong (scope_of scope) told env all) at_end c0 new env (declarators_add (scope_of scope) told env all) (declarators_in_turn at_end (scope_of scope) told env all)
      (pending_codes c.types at_end fresh ++ cs)
  pub hides : ((so_far ≡ true) ⊎ IsBroken at_end (those_without_type (initialisers_in_turn (scope_of scope) told here left))) ↔
      IsBroken at_end (those_without_type (initialisers_in_turn (scope_of scope) told env all))

pub record AreLeft (c0 c : Checker) (scope : Scope) (specified : Specified) (before now : List Pending) (so_far : Bool) (all left : List InitDeclarator) : Type 0 where
  pub puts : PutsPending c.types scope before now
  pub rest : (at_end env : Env) (told : SpecifierTold) → IsPlain c0 env → IsToldBy c0.types specified told → DeclaratorsLeft at_end env c0 c scope told puts.fresh so_far all left

pub false_true : false ≡ true → ⊥
false_true e = cc

pub all_left : (c : Checker) (scope : Scope) (specified : Specified) (before : List Pending) (all : List InitDeclarator) → AreLeft c c scope specified before before false all all
all_left c scope specified before all =
    record {
      puts = record { fresh = []; are = sym (append-nil before); known = tt; none = λ block. refl };
      rest = λ at_end env told plain is. record { here = env; plain = plain; on = λ new cs walks. walks; hides = (only, inr) };
    }
  where
    only : {A : Type 0} → (false ≡ true) ⊎ A → A
    only (inl e) = absurd (false_true e)
    only (inr a) = a

pub pending_both : (table : Table) (at_end : Env) (ps qs : List Pending) → pending_codes table at_end (ps ++ qs) ≡ pending_codes table at_end ps ++ pending_codes table at_end qs
pending_both table at_end [] qs = refl
pending_both table at_end (p ∷ ps) qs = ap (λ cs. codes_at (mark_at p.at) (pending_rules at_end (meaning table p.ty)) ∷ cs) (pending_both table at_end ps qs)

pub known_pendings : (old new : Table) → IsTable old → IsLonger old new → (ps : List Pending) → AreKnownPending old ps → AreKnownPending new ps
known_pendings old new good longer [] known = known
known_pendings old new good longer (p ∷ ps) known = (known_same old new good longer p.ty known.0, known_pendings old new good longer ps known.1)

pub known_both : (table : Table) (ps qs : List Pending) → AreKnownPending table ps → AreKnownPending table qs → AreKnownPending table (ps ++ qs)
known_both table [] qs known others = others
known_both table (p ∷ ps) qs known others = (known.0, known_both table ps qs known.1 others)

or_true : (a b : Bool) → ((a || b) ≡ true) ↔ ((a ≡ true) ⊎ (b ≡ true))
or_true true b = ((λ e. inl refl), λ e. refl)
or_true false b = (inr, back)
  where
    back : (false ≡ true) ⊎ (b ≡ true) → b ≡ true
    back (inl e) = absurd (false_true e)
    back (inr e) = e

pub one_less : (c0 c c1 : Checker) (scope : Scope) (specified : Specified) (before now after : List Pending) (so_far hidden : Bool) (all left rest : List InitDeclarator) (d : InitDeclarator) →
    IsSound c0 → IsSound c → IsLonger c0.types c.types → IsLonger c.types c1.types → IfSome specified.ty (IsKnown c0.types) → left ≡ d ∷ rest → AreLeft c0 c scope specified before now so_far all left →
    DeclaresOne c c1 scope specified d now after hidden → AreLeft c0 c1 scope specified before after (so_far || hidden) all rest
one_less c0 c c1 scope specified before now after so_far hidden all left rest d sound0 sound longer0 longer known is were one =
    record {
      puts = record {
        fresh = were.puts.fresh ++ one.puts.fresh;
        are = one.puts.are ∙ (ap (λ xs. xs ++ one.puts.fresh) were.puts.are ∙ append_assoc before were.puts.fresh one.puts.fresh);
        known = known_both c1.types were.puts.fresh one.puts.fresh (known_pendings c.types c1.types sound.ready.table_is longer were.puts.fresh were.puts.known) one.puts.known;
        none = λ block. ap (λ xs. xs ++ one.puts.fresh) (were.puts.none block) ∙ one.puts.none block;
      };
      rest = λ at_end env told plain told_is.
          let old = were.rest at_end env told plain told_is in
          let here = old.here in
          let told_here = type_still c0 c specified told sound0 longer0 known told_is in
          let w = one.walks at_end here told old.plain told_here in
          let there = extend here (declarator_adds (scope_of scope) told here d) in
          let part = initialiser_part (scope_of scope) told here d in
          let parts = at here (ADeclarator (declared_left (scope_of scope) told at_end here d) d.declarator) ∷ part in
          let others = declarators_in_turn at_end (scope_of scope) told there rest in
          record {
            here = there;
            plain = record { is_in = w.behind; role = old.plain.role; in_size = old.plain.in_size };
            on = λ new cs more.
                subst (λ ds. WalksNaming (IsNamedAmong (scope_of scope) told env all) at_end c0 new env (declarators_add (scope_of scope) told env all) (declarators_in_turn at_end (scope_of scope) told env all) ds)
                (sym (append_assoc (pending_codes c.types at_end were.puts.fresh) (pending_codes c1.types at_end one.puts.fresh) cs) ∙
                ap (λ ds. ds ++ cs) (ap (λ ds. ds ++ pending_codes c1.types at_end one.puts.fresh) (sym (pendings_stay c.types c1.types sound.ready.table_is longer at_end were.puts.fresh were.puts.known)) ∙
                sym (pending_both c1.types at_end were.puts.fresh one.puts.fresh)))
                (old.on new (pending_codes c1.types at_end one.puts.fresh ++ cs)
                (subst (λ ds. WalksNaming (IsNamedAmong (scope_of scope) told here ds) at_end c new here (declarators_add (scope_of scope) told here ds) (declarators_in_turn at_end (scope_of scope) told here ds)
                (pending_codes c1.types at_end one.puts.fresh ++ cs)) (sym is)
                (naming_walks_then (IsNamedAmong (scope_of scope) told here (d ∷ [])) (IsNamedAmong (scope_of scope) told there rest) (IsNamedAmong (scope_of scope) told here (d ∷ rest)) at_end c c1 new here (declarator_adds (scope_of scope) told here d) (declarators_add (scope_of scope) told there rest) parts others (pending_codes c1.types at_end one.puts.fresh) cs (named_one (scope_of scope) told here d rest) (named_later (scope_of scope) told here d rest) w more)));
            hides =
                hidden_more (or_true so_far hidden) (one.hides at_end here told old.plain told_here)
                (subst (λ ps. (IsBroken at_end (those_without_type part) ⊎ IsBroken at_end (those_without_type (initialisers_in_turn (scope_of scope) told there rest))) ↔ IsBroken at_end ps)
                (sym (hiding_parts_in_turn part (initialisers_in_turn (scope_of scope) told there rest)) ∙ ap (λ ds. those_without_type (initialisers_in_turn (scope_of scope) told here ds)) (sym is))
                (broken_both at_end (those_without_type part) (those_without_type (initialisers_in_turn (scope_of scope) told there rest))))
                old.hides;
          };
    }
  where
    hidden_more : {S H SH P R L A : Type 0} → (SH ↔ (S ⊎ H)) → (H ↔ P) → ((P ⊎ R) ↔ L) → ((S ⊎ L) ↔ A) → ((SH ⊎ R) ↔ A)
    hidden_more {S} {H} {SH} {P} {R} {L} {A} either one both all = (to, λ a. back (all.1 a))
      where
        of_either : S ⊎ H → A
        of_either (inl s) = all.0 (inl s)
        of_either (inr h) = all.0 (inr (both.0 (inl (one.0 h))))

        to : SH ⊎ R → A
        to (inl sh) = of_either (either.0 sh)
        to (inr r) = all.0 (inr (both.0 (inr r)))

        of_both : P ⊎ R → SH ⊎ R
        of_both (inl p) = inl (either.1 (inr (one.1 p)))
        of_both (inr r) = inr r

        back : S ⊎ L → SH ⊎ R
        back (inl s) = inl (either.1 (inl s))
        back (inr l) = of_both (both.1 l)

pub none_left : (c0 c : Checker) (scope : Scope) (specified : Specified) (before now : List Pending) (so_far : Bool) (all left : List InitDeclarator) → IsSound c → left ≡ [] →
    AreLeft c0 c scope specified before now so_far all left → DeclaresAll c0 c scope specified all before now so_far
none_left c0 c scope specified before now so_far all left sound is were =
    record {
      puts = were.puts;
      walks = λ at_end env told plain told_is.
          let old = were.rest at_end env told plain told_is in
          subst (λ cs. WalksNaming (IsNamedAmong (scope_of scope) told env all) at_end c0 c env (declarators_add (scope_of scope) told env all) (declarators_in_turn at_end (scope_of scope) told env all) cs) (append-nil (pending_codes c.types at_end were.puts.fresh))
          (old.on c []
          (subst (λ ds. WalksNaming (IsNamedAmong (scope_of scope) told old.here ds) at_end c c old.here (declarators_add (scope_of scope) told old.here ds) (declarators_in_turn at_end (scope_of scope) told old.here ds) []) (sym is)
          (naming_walks_none (IsNamedAmong (scope_of scope) told old.here []) at_end c old.here sound old.plain.is_in)));
      hides = λ at_end env told plain told_is.
          let old = were.rest at_end env told plain told_is in
          by at_end (subst (λ ds. ((so_far ≡ true) ⊎ IsBroken at_end (those_without_type (initialisers_in_turn (scope_of scope) told old.here ds))) ↔
          IsBroken at_end (those_without_type (initialisers_in_turn (scope_of scope) told env all))) is old.hides);
    }
  where
    by : (at_end : Env) {A : Type 0} → (((so_far ≡ true) ⊎ IsBroken at_end []) ↔ A) → ((so_far ≡ true) ↔ A)
    by at_end {A} is = ((λ e. is.0 (inl e)), λ a. back (is.1 a))
      where
        back : (so_far ≡ true) ⊎ IsBroken at_end [] → so_far ≡ true
        back (inl e) = e
        back (inr h) = absurd (none_broken at_end h)

-- ---- a declaration

declares_name : (scope : rule.Scope) (env : Env) (node : Declare) (name : NameDeclared) →
    IsNamedAmong scope (specifiers_found node.specifiers env (is_alone node.declarators)) (extend env (specifiers_found node.specifiers env (is_alone node.declarators)).additions) node.declarators name →
    entities.DeclaresName env (ADeclaration scope node) name
declares_name scope env node name h =
    subst (λ s. entities.DeclaresName env (ADeclaration scope node) (record { is = name.is; spot = s; type = name.type })) (sym h.spot)
    (entities.DeclaresName.in_declaration {env' = h.here} {d = h.d} {named = h.named} h.among h.has_name h.found h.type)

pub node_walked : (c0 c1 c2 c3 : Checker) (scope : Scope) (node : Declare) (specified : Specified) (before after : List Pending) (hidden : Bool) (place : At) → mark_at place ≡ mark node.spot node.ordinal →
    Specifies c0 c1 InDeclaration (is_alone node.declarators) false node.specifiers specified → IsFurther c0 c1 → DeclaresAll c1 c2 scope specified node.declarators before after hidden →
    KeepsAt c2 c3 place (if hidden then [] else breaches_in specified.breaches.items) → IsSame c2 c3 → WalksNode c0 c3 scope node before after
node_walked c0 c1 c2 c3 scope node specified before after hidden place marks specifies further all own same =
    record {
      puts = record { fresh = all.puts.fresh; are = all.puts.are; known = subst (λ t. AreKnownPending t all.puts.fresh) (sym same.types) all.puts.known; none = all.puts.none };
      walks = λ at_end env plain.
          let alone = is_alone node.declarators in
          let sp = specifies at_end env (record { is_in = plain.is_in; role = plain.role; in_size = plain.in_size }) in
          let S = specifiers_found node.specifiers env alone in
          let env1 = extend env S.additions in
          let plain1 : IsPlain c1 env1 = record { is_in = sp.walks.behind; role = plain.role; in_size = plain.in_size } in
          let told : IsToldBy c1.types specified S = record { storages = sp.specified.storages; type = sp.specified.type } in
          let w = all.walks at_end env1 S plain1 told in
          let adds = declarators_add (scope_of scope) S env1 node.declarators in
          let specs = specifiers_parts alone env node.specifiers in
          let ds = declarators_in_turn at_end (scope_of scope) S env1 node.declarators in
          let m = mark node.spot node.ordinal in
          let cs = if hidden then [] else declaration_rules env node in
          let ps = pending_codes c2.types at_end all.puts.fresh in
          record {
            longer = longer_then c0.types c1.types c3.types further.longer (subst (IsLonger c1.types) (sym same.types) w.longer);
            sound = sound_as c2 c3 same.types same.names w.sound;
            outside = same.outside ∙ (w.outside ∙ further.outside);
            begun = λ s b. subst (λ (n : InScope). slice_get n.structs s ≡ Some Begun) (sym same.names) (w.begun s (further.begun s b));
            behind = is_in_as c2 c3 (extend env (both S.additions adds)) same.types same.names same.outside (subst (IsIn c2) (extend_both env S.additions adds) w.behind);
            keeps = λ others more last kept.
                let k3 = subst (λ t. KeepsAll at_end (kept_in c3) others (pending_codes t at_end all.puts.fresh ++ more) last) same.types kept in
                let k2 = codes_turned at_end (kept_in c2) last others (codes_at m cs ∷ []) ps more
                (codes_first at_end (kept_in c2) (kept_in c3) last others m cs (ps ++ more)
                (subst (λ n. KeepsCodes (kept_in c2) n cs (kept_in c3)) marks (subst (λ bs. KeepsCodes (kept_in c2) (mark_at place) (if hidden then [] else bs) (kept_in c3)) sp.specified.breaches own)) k3) in
                node_closed at_end env (ADeclaration (scope_of scope) node) hidden
                (subst (λ hs. (hidden ≡ true) ↔ IsBroken at_end hs) (sym (only_initialisers_hide at_end env (scope_of scope) node)) (all.hides at_end env1 S plain1 told))
                (kept_in c0) last others more
                (subst (λ rs. KeepsAll at_end (kept_in c0) rs (codes_at m cs ∷ more) last) (sym (append_assoc specs ds others))
                (nodes_first at_end (kept_in c0) (kept_in c1) last specs (ds ++ others) (codes_at m cs ∷ more) sp.walks.keeps (w.keeps others (codes_at m cs ∷ more) last k2)));
            records = truth_of_names (IsBegunAmong alone env node.specifiers) (IsNamedAmong (scope_of scope) S env1 node.declarators) at_end c0 c3 env (ADeclaration (scope_of scope) node) refl (declares_name (scope_of scope) env node) (λ s tag own. own)
                (naming_still (IsBegunAmong alone env node.specifiers) (IsNamedAmong (scope_of scope) S env1 node.declarators) at_end c0 c2 c3 (specs ++ ds) w.sound.ready.table_is (subst (IsLonger c2.types) (sym same.types) (longer_same c2.types)) same.records
                (naming_first (IsBegunAmong alone env node.specifiers) (IsNamedAmong (scope_of scope) S env1 node.declarators) at_end c0 c1 c2 specs ds sp.walks.sound.ready.table_is w.longer sp.walks.records w.records));
          };
    }

-- in a block nothing waits
pub walked_in_block : (c0 c1 : Checker) (node : Declare) (after : List Pending) → WalksNode c0 c1 Block node [] after → WalksDeclaration node c0 c1
walked_in_block c0 c1 node after walks at_end env plain =
    let w = walks.walks at_end env plain in
    record {
      longer = w.longer;
      sound = w.sound;
      outside = w.outside;
      begun = w.begun;
      behind = w.behind;
      keeps =
          nodes_alone at_end (kept_in c0) (kept_in c1) (at env (ADeclaration InBlock node) ∷ [])
          (w.keeps [] [] (kept_in c1) (subst (λ ps. KeepsAll at_end (kept_in c1) [] (pending_codes c1.types at_end ps ++ []) (kept_in c1)) (sym (walks.puts.none refl)) (nothing_left at_end (kept_in c1))));
      records = w.records;
    }

-- ---- the name of a declarator

-- what is found of a name that may be missing
record NameHolds (at_end : Env) (old new : Checker) (env : Env) (scope : Scope) (ss : List Storage) (init : Option Init) (t : Option Ty) (found : NameFound) (name : Option Named) (given : rule.Given) : Type 0 where
  pub type : option_map (meaning new.types) found.ty ≡ completed init (type_of_name env (scope_of scope) ss name t)
  pub behind : IsIn new (extend env (named_additions env (scope_of scope) ss given init name t))
  pub keeps : KeepsBut at_end old new found.pending (name_codes env t (Declares (scope_of scope) ss given (elements_given init (type_of_name env (scope_of scope) ss name t)) at_end) name)
  pub puts : PutsIfNamed old new name (λ named. declared_as env (scope_of scope) ss given init named.name named.ordinal t) (completed init (type_of_name env (scope_of scope) ss name t))

finds_so : (at_end : Env) (old new : Checker) (env : Env) (scope : Scope) (ss : List Storage) (d : InitDeclarator) (t : Option Ty) (found : NameFound) (name : Option Named) (given : rule.Given) →
    name ≡ (declarator_found d.declarator).name → given ≡ given_by d.init → NameHolds at_end old new env scope ss d.init t found name given → NameIsFound at_end old new env scope ss d t found
finds_so at_end old new env scope ss d t found name given name_is given_is holds =
    let h =
    subst (λ g. NameHolds at_end old new env scope ss d.init t found (declarator_found d.declarator).name g) given_is
    (subst (λ n. NameHolds at_end old new env scope ss d.init t found n given) name_is holds) in
    record { type = h.type; behind = h.behind; keeps = h.keeps; puts = h.puts }

pub name_found : (old new : Checker) (scope : Scope) (ss : List Storage) (given : Given) (d : InitDeclarator) (t : Option ℕ) (found : NameFound) (named : Named) →
    Some named ≡ (declarator_found d.declarator).name → given_of given ≡ given_by d.init → DeclaresName old new scope ss given named t d.init found → FindsName old new scope ss d t found
name_found old new scope ss given d t found named name_is given_is declares at_end env is_in =
    let n = declares at_end env is_in in
    let T = option_map (meaning old.types) t in
    let whole = completed d.init (composite_type env (scope_of scope) ss named.name T) in
    let puts =
    subst (PutsDeclared old new (declared_as env (scope_of scope) ss (given_of given) d.init named.name named.ordinal T)) (ap (λ g. type_recorded g T whole) given_is ∙ not_defined d.init T whole) n.puts in
    finds_so at_end old new env scope ss d T found (Some named) (given_of given) name_is given_is (record { type = n.type; behind = n.behind; keeps = n.keeps; puts = puts })

pub no_name_found : (old new : Checker) (scope : Scope) (ss : List Storage) (d : InitDeclarator) (t ty : Option ℕ) → IsSound old → None ≡ (declarator_found d.declarator).name → PutsTypes old new →
    option_map (meaning new.types) ty ≡ completed d.init (option_map (meaning old.types) t) → FindsName old new scope ss d t (record { ty = ty; pending = None })
no_name_found old new scope ss d t ty sound name_is puts is at_end env is_in =
    finds_so at_end old new env scope ss d (option_map (meaning old.types) t) (record { ty = ty; pending = None }) None (given_by d.init) name_is refl
    (record {
      type = is;
      behind = subst (IsIn new) (extends_by_nothing env) (in_puts old new sound puts env is_in);
      keeps = λ others more last kept. subst (λ k. KeepsAll at_end k others more last) puts.grows.kept kept;
      puts = puts.grows.records;
    })

-- ---- what waits

pub listed_known : (table : Table) (scope : Scope) (p : Option Pending) → IfSome p (λ (q : Pending). (scope ≡ File) × IsKnown table q.ty) → AreKnownPending table (listed p)
listed_known table scope None waits = tt
listed_known table scope (Some p) waits = (waits.1, tt)

pub none_in_block : (table : Table) (scope : Scope) (p : Option Pending) → IfSome p (λ (q : Pending). (scope ≡ File) × IsKnown table q.ty) → scope ≡ Block → p ≡ None
none_in_block table scope None waits block = refl
none_in_block table scope (Some p) waits block = absurd (file_block (sym waits.0 ∙ block))
  where
    file_block : File ≡ Block → ⊥
    file_block e = cc

pub waits_known : (table : Table) (scope : Scope) (given : Given) (p : Option Pending) → WaitsIn table scope given p → IfSome p (λ (q : Pending). (scope ≡ File) × IsKnown table q.ty)
waits_known table scope given None waits = tt
waits_known table scope given (Some p) waits = (waits.0, waits.2)

pub nothing_at : (checker : Checker) (place : At) (bs : List Breach) (hidden : Bool) → hidden ≡ true → KeepsAt checker checker place (if hidden then [] else bs)
nothing_at checker place bs hidden is =
    subst (λ h. KeepsAt checker checker place (if h then [] else bs)) (sym is) (the_lesser_is_kept (kept_in checker) (mark_at place) None)
