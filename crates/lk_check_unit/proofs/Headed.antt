-- The head of a definition: its specifiers, its declarator and its name, with the codes of the definition itself.
use Rattle.std.proofs.Common.{◌≡◌, ◌∙◌, ◌++◌, ℕ, false, List, [], ◌∷◌, Option, Some, None, refl, sym, ap, subst, append_assoc}
use Rattle.std.specs.Option.{option_map}
use Rattle.std.specs.Prelude.{IfSome}
use Rattle.lk_base.specs.declared.spot.Spot.{Spot}
use Rattle.lk_tree.specs.declared.statement.Function.{Function}
use Rattle.lk_types.specs.Building.{IsLonger}
use Rattle.lk_types.specs.Table.{IsKnown}
use Rattle.lk_types.proofs.GrowLemmas.{longer_same, longer_then}
use Rattle.lk_typed.specs.DeclarationRules.{AtFile, Defined, InDefinition, definition_rules, type_in}
use Rattle.lk_typed.specs.DeclaratorRules.{of_type}
use Rattle.lk_typed.specs.Declarations.{declared_as, named_additions}
use Rattle.lk_typed.specs.Env.{Env, extend, look_up}
use Rattle.lk_typed.specs.Expressions.{declarator_found}
use Rattle.lk_typed.specs.Faults.{Breach}
use Rattle.lk_typed.specs.HolderRules.{all_specifier_rules}
use Rattle.lk_typed.specs.Layers.{type_made}
use Rattle.lk_typed.specs.Meaning.{meaning}
use Rattle.lk_typed.specs.NodeParts.{defined_left, result_of}
use Rattle.lk_typed.specs.NodeRules.{mark, struct_bound_rules}
use Rattle.lk_typed.specs.Nodes.{ADeclarator, Declares, NameUse, Placed, at, Left}
use Rattle.lk_typed.specs.Parts.{specifiers_parts}
use Rattle.lk_typed.specs.Stands.{Mark}
use Rattle.lk_typed.specs.Told.{DeclaratorTold, Named, SpecifierTold}
use Rattle.lk_typed.specs.Ty.{Ty}
use Rattle.lk_rules.specs.Keeping.{Kept, KeepsCodes}
use Rattle.lk_found.specs.Truth.{IsBegunAmong, NoTag}
use Rattle.lk_found.specs.Declarators.{codes_of_use, left_of, name_codes}
use Rattle.lk_found.specs.Keepings.{Codes, KeepsAll, codes_at}
use Rattle.lk_found.specs.Specified.{breaches_in}
use Rattle.lk_found.specs.Findings.{mark_at}
use Rattle.lk_found.specs.declared.declarators.DeclaratorFound.{DeclaratorFound}
use Rattle.lk_found.specs.declared.found.At.{At}
use Rattle.lk_found.specs.declared.gathered.Specified.{Specified}
use Rattle.lk_checker.proofs.GoingOn.{scope_known, type_same}
use Rattle.lk_checker.specs.Shaped.{IsKnownFound}
use Rattle.lk_checker.specs.Moves.{IsSame, KeepsAt, IsFurther}
use Rattle.lk_checker.specs.States.{IsSound, kept_in}
use Rattle.lk_checker.specs.declared.checker.Checker.{Checker}
use Rattle.lk_check_walk.proofs.WalkedForms.{scope_stays}
use Rattle.lk_check_walk.proofs.Truth.{truth_still, told_still}
use Rattle.lk_check_walk.specs.Declarators.{FindsDeclarator, IsDeclared}
use Rattle.lk_check_walk.specs.Specifying.{AreSpecified, Specifies}
use Rattle.lk_check_walk.specs.Walks.{TellsTruth}
use Rattle.lk_check_unit.specs.Bodies.{IsPlain}
use Rattle.lk_check_unit.specs.Definitions.{FunctionIsNamed, Heads, IsFunctionName, IsHeaded, IsKnownHeaded, NamesFunction, behind_specifiers, specifiers_of, type_defined}
use Rattle.lk_check_unit.specs.Later.{TellsNaming, TellsNamingOf}
use Rattle.lk_check_unit.specs.declared.definitions.Headed.{Headed}
use Rattle.lk_check_unit.proofs.Declares.{no_bound, use_is_named}
use Rattle.lk_check_unit.proofs.Later.{codes_first, codes_joined, codes_turned_back, nodes_first}
use Rattle.lk_check_unit.proofs.NamesTold.{found_alone, naming_first, naming_put_if_named}
use Rattle.lk_check_unit.proofs.Naming.{in_same, same_sound}

pub marked : (place : At) (s : Spot) (n : ℕ) → place.spot ≡ s → place.ordinal ≡ n → mark_at place ≡ mark s n
marked place s n p q = ap (λ t. mark t place.ordinal) p ∙ ap (mark s) q

-- the state is that where a head begins, behind its specifiers, their codes, its declarator, code 40, and its name
module _ (c0 c1 c2 c3 c4 c5 : Checker) (node : Function) (specified : Specified) (declared : DeclaratorFound) (returned : Option ℕ) (place : At)
    (marks : mark_at place ≡ mark node.spot node.ordinal)
    (specifies : Specifies c0 c1 InDefinition false false node.specifiers specified)
    (own : KeepsAt c1 c2 place (breaches_in specified.breaches.items)) (same12 : IsSame c1 c2)
    (finds : FindsDeclarator c2 c3 specified.ty node.declarator (record { may_be_absent = false; in_size = false }) declared)
    (dots : KeepsAt c3 c4 place (definition_rules (option_map (meaning c3.types) declared.ty))) (same34 : IsSame c3 c4)
    (names : NamesFunction c4 c5 specified.storages.items node.declarator declared.ty)
    (sound3 : IsSound c3) (further2 : IsFurther c2 c3) (further : IsFurther c3 c5) (known : IsKnownFound c3 declared)
    (returned_is : option_map (meaning c5.types) returned ≡ result_of (option_map (meaning c5.types) declared.ty)) where
  abbrev headed : Headed
  headed = record { returned = returned; parameters = declared.parameters }

  headed_so : (at_end env : Env) → IsPlain c0 env → IsHeaded at_end env c0 c5 node headed
  headed_so at_end env plain =
      record {
        behind = named.behind;
        returned = returned_is ∙ ap result_of (type_same c3 c5 sound3 further declared.ty known.type ∙ type_is);
        parameters = scope_stays c3 c5 further.longer sound3 further.sound.ready.table_is declared.parameters known.parameters ∙ decl.parameters;
        keeps = keeps;
        records = told;
      }
    where
      sp : AreSpecified at_end c0 c1 env InDefinition false node.specifiers specified
      sp = specifies at_end env (record { is_in = plain.is_in; role = plain.role; in_size = plain.in_size })

      S : SpecifierTold
      S = specifiers_of env node

      here : Env
      here = behind_specifiers env node

      inner : DeclaratorTold
      inner = declarator_found node.declarator

      left : Option Ty
      left = type_in InDefinition S

      T : Option Ty
      T = type_defined env node

      after : Env
      after = extend here (inner.additions here)

      left_is : option_map (meaning c2.types) specified.ty ≡ left
      left_is = ap (λ t. option_map (meaning t) specified.ty) same12.types ∙ sp.specified.type

      decl : IsDeclared at_end c2 c3 here specified.ty node.declarator (record { may_be_absent = false; in_size = false }) declared
      decl = finds at_end here (record { is_in = in_same c1 c2 same12 here sp.walks.behind; role = plain.role; in_size = plain.in_size })

      type_is : option_map (meaning c3.types) declared.ty ≡ T
      type_is = decl.type ∙ ap (λ t. type_made here false t inner) left_is

      named : FunctionIsNamed at_end c4 c5 after S.storages inner.name T
      named =
          subst (λ t. FunctionIsNamed at_end c4 c5 after S.storages inner.name t) (ap (λ t. option_map (meaning t) declared.ty) same34.types ∙ type_is)
          (subst (λ ss. FunctionIsNamed at_end c4 c5 after ss inner.name (option_map (meaning c4.types) declared.ty)) sp.specified.storages (names at_end after (in_same c3 c4 same34 after decl.behind)))

      used : NameUse
      used = Declares AtFile S.storages Defined 0 at_end

      KeepsSo : Option Ty → Type 0
      KeepsSo t = (others : List Placed) (later : List Codes) (last : Kept) → KeepsAll at_end (kept_in c3) others (codes_of_use here (left_of here false t node.declarator used) node.declarator ++ later) last →
          KeepsAll at_end (kept_in c2) (at here (ADeclarator (left_of here false t node.declarator used) node.declarator) ∷ others) later last

      kept_so : KeepsSo left
      kept_so = subst KeepsSo left_is (decl.keeps used)

      left_given : Left
      left_given = defined_left S at_end here node

      own_name : (n : Named) → inner.name ≡ Some n → (ty : Ty) → T ≡ Some ty →
          (spot : Spot) × IsFunctionName env node (record { is = declared_as after AtFile S.storages Defined None n.name n.ordinal T; spot = spot; type = ty })
      own_name n has_name ty type = (
        n.spot,
        record {
          named = n;
          has_name = has_name;
          found =
              ap (λ o. look_up (extend after (named_additions after AtFile S.storages Defined None o T)) n.name) has_name ∙
              found_alone after (declared_as after AtFile S.storages Defined None n.name n.ordinal T);
          spot = refl;
          type = type;
        },
      )

      -- what is recorded of the specifiers, and of the declarator
      told : TellsNamingOf (IsBegunAmong false env node.specifiers) (IsFunctionName env node) at_end c0 c5 (specifiers_parts false env node.specifiers ++ at here (ADeclarator left_given node.declarator) ∷ [])
      told =
          let one = specifiers_parts false env node.specifiers in
          let two = at here (ADeclarator left_given node.declarator) ∷ [] in
          let sound2 = (same_sound c1 c2 same12 sp.walks.sound).ready.table_is in
          let walked : TellsTruth at_end c2 c4 two =
          truth_still at_end c2 c3 c4 two sound3.ready.table_is (subst (IsLonger c3.types) (sym same34.types) (longer_same c3.types)) same34.records (decl.records left_given) in
          let declared_told : TellsNaming (IsFunctionName env node) at_end c2 c5 two =
          naming_put_if_named NoTag (IsFunctionName env node) at_end c2 c4 c5 two inner.name (λ (n : Named). declared_as after AtFile S.storages Defined None n.name n.ordinal T) T
          (same_sound c3 c4 same34 sound3).ready.table_is (subst (λ table. IsLonger table c5.types) (sym same34.types) further.longer) walked named.puts own_name in
          naming_first (IsBegunAmong false env node.specifiers) (IsFunctionName env node) at_end c0 c2 c5 one two sound2 (longer_then c2.types c3.types c5.types further2.longer further.longer)
          (told_still (IsBegunAmong false env node.specifiers) at_end c0 c1 c2 one sp.walks.sound.ready.table_is (subst (IsLonger c1.types) (sym same12.types) (longer_same c1.types)) same12.records sp.walks.records) declared_told

      m : Mark
      m = mark node.spot node.ordinal

      own_rules : List Breach
      own_rules = all_specifier_rules InDefinition false env node.specifiers

      dots_so : KeepsCodes (kept_in c3) m (definition_rules T) (kept_in c4)
      dots_so = subst (λ n. KeepsCodes (kept_in c3) n (definition_rules T) (kept_in c4)) marks (subst (λ t. KeepsAt c3 c4 place (definition_rules t)) type_is dots)

      own_so : KeepsCodes (kept_in c1) m own_rules (kept_in c2)
      own_so = subst (λ n. KeepsCodes (kept_in c1) n own_rules (kept_in c2)) marks (subst (KeepsAt c1 c2 place) sp.specified.breaches own)

      specs : List Placed
      specs = specifiers_parts false env node.specifiers

      keeps : (others : List Placed) (more : List Codes) (last : Kept) → KeepsAll at_end (kept_in c5) others more last →
          KeepsAll at_end (kept_in c0) (specs ++ at here (ADeclarator (defined_left S at_end here node) node.declarator) ∷ others) (codes_at m (own_rules ++ definition_rules T) ∷ more) last
      keeps others more last kept =
          let ns = name_codes after T used inner.name in
          let d = at here (ADeclarator (defined_left S at_end here node) node.declarator) in
          let k3 : KeepsAll at_end (kept_in c3) others (codes_at m (definition_rules T) ∷ (ns ++ more)) last =
          codes_first at_end (kept_in c3) (kept_in c4) last others m (definition_rules T) (ns ++ more) dots_so (named.keeps others more last kept) in
          let turned : KeepsAll at_end (kept_in c3) others (ns ++ (codes_at m (definition_rules T) ∷ more)) last =
          subst (λ cs. KeepsAll at_end (kept_in c3) others cs last) (append_assoc ns (codes_at m (definition_rules T) ∷ []) more)
          (codes_turned_back at_end (kept_in c3) last others ns (codes_at m (definition_rules T) ∷ []) more k3) in
          let k2 : KeepsAll at_end (kept_in c2) (d ∷ others) (codes_at m (definition_rules T) ∷ more) last =
          kept_so others (codes_at m (definition_rules T) ∷ more) last
          (use_is_named at_end (kept_in c3) last others ns (mark node.declarator.spot node.declarator.ordinal) (of_type T (struct_bound_rules after used)) (codes_at m (definition_rules T) ∷ more)
          (no_bound after AtFile S.storages Defined 0 at_end T) turned) in
          codes_joined at_end (kept_in c0) last (specs ++ d ∷ others) m own_rules (definition_rules T) more
          (nodes_first at_end (kept_in c0) (kept_in c1) last specs (d ∷ others) (codes_at m own_rules ∷ codes_at m (definition_rules T) ∷ more) sp.walks.keeps
          (codes_first at_end (kept_in c1) (kept_in c2) last (d ∷ others) m own_rules (codes_at m (definition_rules T) ∷ more) own_so k2))

  pub head_walked : Heads node c0 c5 headed
  head_walked = headed_so

-- what is known of it where its declarator ends is known behind its name
pub head_known : (c3 c5 : Checker) (declared : DeclaratorFound) (returned : Option ℕ) → IsSound c3 → IsFurther c3 c5 → IsKnownFound c3 declared → IfSome returned (IsKnown c5.types) →
    IsKnownHeaded c5 (record { returned = returned; parameters = declared.parameters })
head_known c3 c5 declared returned sound further known result = record { returned = result; parameters = scope_known c3 c5 sound further declared.parameters known.parameters }
