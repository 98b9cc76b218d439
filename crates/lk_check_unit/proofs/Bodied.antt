-- Bodies of functions, in whose outermost blocks the parameters stand, and definitions.
use Rattle.std.proofs.Common.{◌≡◌, ◌∙◌, ◌++◌, ◌↔◌, true, false, List, [], ◌∷◌, Option, Some, None, refl, sym, ap, subst, append_assoc}
use Rattle.std.proofs.lemmas.List.{append-nil}
use Rattle.std.specs.Option.{option_map}
use Rattle.std.specs.Prelude.{slice_get}
use Rattle.lk_tree.specs.declared.statement.BlockItem.{BlockItem, out-BlockItem}
use Rattle.lk_tree.specs.declared.statement.Decl.TheVariants as decl
use Rattle.lk_tree.specs.declared.statement.Function.{Function}
use Rattle.lk_tree.specs.declared.statement.Stmt.{Stmt}
use Rattle.lk_tree.specs.declared.statement.StmtForm.{out-StmtForm}
use Rattle.lk_types.specs.Building.{IsLonger}
use Rattle.lk_types.specs.Table.{Table}
use Rattle.lk_types.proofs.GrowLemmas.{longer_same, longer_then}
use Rattle.lk_typed.specs.DeclarationRules.{AtFile, Defined}
use Rattle.lk_typed.specs.Declarations.{named_additions}
use Rattle.lk_typed.specs.Entities.{DeclaresName, NameDeclared}
use Rattle.lk_typed.specs.Entities.DeclaresName.{by_definition}
use Rattle.lk_typed.specs.Env.{Env, Additions, both, enter, extend, past_scope}
use Rattle.lk_typed.specs.Expressions.{declarator_found}
use Rattle.lk_typed.specs.Labels.{labels}
use Rattle.lk_typed.specs.Meaning.{meaning}
use Rattle.lk_typed.specs.NodeParts.{behind_declarator, body_items, defined_left, external_adds, in_body, parameters_of_body, past_body}
use Rattle.lk_typed.specs.NodeRules.{breaches, mark}
use Rattle.lk_typed.specs.Nodes.{ADeclarator, ADefinition, Placed, at}
use Rattle.lk_typed.specs.Parts.{item_adds, items_add, items_in_turn, specifiers_parts}
use Rattle.lk_typed.specs.StatementRules.{in_function}
use Rattle.lk_typed.specs.Told.{SpecifierTold}
use Rattle.lk_typed.specs.Ty.{Ty}
use Rattle.lk_typed.specs.declared.members.Members.TheVariants.{Begun}
use Rattle.lk_names.specs.Growing.{InLeftScope}
use Rattle.lk_names.specs.declared.names.Mark.{Mark}
use Rattle.lk_rules.proofs.Kept.{none_broken}
use Rattle.lk_rules.proofs.Parts.{definitions_are_asked}
use Rattle.lk_rules.specs.Keeping.{IsBroken, KeepsNodes}
use Rattle.lk_found.specs.Truth.{IsBegunAmong}
use Rattle.lk_found.proofs.Environments.{extend_both}
use Rattle.lk_found.specs.Declarators.{scope_told}
use Rattle.lk_found.specs.Keepings.{KeepsAll, codes_at}
use Rattle.lk_checker.specs.Moves.{IsFurther}
use Rattle.lk_checker.specs.States.{IsIn, kept_in}
use Rattle.lk_checker.specs.declared.checker.Checker.{Checker}
use Rattle.lk_check_walk.proofs.Truth.{truth_behind, truth_still}
use Rattle.lk_check_walk.specs.Walks.{Walks}
use Rattle.lk_check_unit.specs.Bodies.{IsAround, IsRound, Passes, WalksItems}
use Rattle.lk_rules.specs.Statements.{items_told}
use Rattle.lk_check_unit.specs.Definitions.{DeclaresParameters, EntersBody, Heads, IsFunctionName, IsHeaded, WalksBody, WalksDefinition, behind_specifiers, in_body_of, specifiers_of, type_defined}
use Rattle.lk_check_unit.specs.Later.{TellsNamingOf}
use Rattle.lk_check_unit.specs.Scoping.{Enters, IsBeside, Leaves}
use Rattle.lk_check_unit.specs.declared.body.Body.{Body}
use Rattle.lk_check_unit.specs.declared.definitions.Headed.{Headed}
use Rattle.lk_check_unit.proofs.Declares.{false_true}
use Rattle.lk_check_unit.proofs.Items.{same_adds}
use Rattle.lk_check_unit.proofs.Later.{node_closed, nodes_alone, nodes_first, nothing_left}
use Rattle.lk_check_unit.proofs.NamesTold.{naming_then, truth_of_names}
use Rattle.lk_check_unit.proofs.Walking.{extends_by_nothing}

-- ---- items in turn

pub items_adds : (is : List BlockItem) (env : Env) → (items_told is env).additions ≡ items_add env is
items_adds [] env = refl
items_adds (i ∷ is) env =
    ap (λ a. both a (items_told is (extend env a)).additions) (same_adds (out-BlockItem i) env) ∙
    ap (both (item_adds (out-BlockItem i) env)) (items_adds is (extend env (item_adds (out-BlockItem i) env)))

-- ---- the scope of a body

-- names and tags alone
no_structs : (table : Table) (parameters : Option InLeftScope) → (scope_told table parameters).structs ≡ []
no_structs table None = refl
no_structs table (Some scope) = refl

pub beside_then : (a b c : Checker) → IsBeside a b → IsBeside b c → IsBeside a c
beside_then a b c p q =
    record {
      types = q.types ∙ p.types;
      outside = q.outside ∙ p.outside;
      kept = q.kept ∙ p.kept;
      records = q.records ∙ p.records;
      structs = q.structs ∙ p.structs;
      sound = λ sound. q.sound (p.sound sound);
    }

pub body_entered : (c0 c1 c2 : Checker) (parameters : Option InLeftScope) (mark : Mark) → Enters c0 c1 mark → DeclaresParameters c1 c2 parameters → EntersBody c0 c2 parameters mark
body_entered c0 c1 c2 parameters mark enters declares =
    record {
      beside = beside_then c0 c1 c2 enters.beside declares.beside;
      entered = λ env is_in. subst (λ t. IsIn c2 (extend (enter env) (scope_told t parameters))) enters.beside.types (declares.adds (enter env) (enters.entered env is_in));
      marks = enters.marks;
    }

pub nothing_declared : (c : Checker) → DeclaresParameters c c None
nothing_declared c =
    record {
      beside = record { types = refl; outside = refl; kept = refl; records = refl; structs = refl; sound = λ sound. sound };
      adds = λ env is_in. subst (IsIn c) (extends_by_nothing env) is_in;
    }

-- the result of the function is told beside what is in scope
in_result : (checker : Checker) (env : Env) (r : Option Ty) → IsIn checker env → IsIn checker (record env { result = r })
in_result checker env r is_in = record { scope = ap (λ (e : Env). record e { result = r }) is_in.scope; defined = is_in.defined; externs = is_in.externs }

-- ---- a body

module _ (c0 c1 c2 c3 : Checker) (s : Stmt) (headed : Headed) (before behind : Body) (mark : Mark) (enters : EntersBody c0 c1 headed.parameters mark)
    (around : IsAround before (in_function (labels s))) (returned : before.returned ≡ headed.returned)
    (walks : WalksItems (body_items (out-StmtForm s.form)) c1 c2 before behind) (leaves : Leaves c2 c3 mark) where
  abbrev items : List BlockItem
  items = body_items (out-StmtForm s.form)

  pub body_walked : WalksBody s c0 c3 headed
  body_walked at_end env plain =
      record {
        longer = subst (IsLonger c0.types) (sym leaves.beside.types) (subst (λ t. IsLonger t c2.types) enters.beside.types p.walks.longer);
        sound = leaves.beside.sound p.walks.sound;
        outside = leaves.beside.outside ∙ (p.walks.outside ∙ enters.beside.outside);
        begun = λ n is. subst (λ ms. slice_get ms n ≡ Some Begun) (sym leaves.beside.structs) (p.walks.begun n (subst (λ ms. slice_get ms n ≡ Some Begun) (sym enters.beside.structs) is));
        behind = subst (λ a. IsIn c3 (extend env a)) past_is (leaves.left env (both ps added) (enters.marks env plain.is_in) left);
        keeps =
            subst (KeepsNodes at_end (kept_in c0) nodes) (sym leaves.beside.kept) (subst (λ k. KeepsNodes at_end k nodes (kept_in c2)) enters.beside.kept p.walks.keeps);
        records = truth_behind at_end c0 c1 c3 nodes enters.beside.records
            (truth_still at_end c1 c2 c3 nodes p.walks.sound.ready.table_is (subst (IsLonger c2.types) (sym leaves.beside.types) (longer_same c2.types)) leaves.beside.records p.walks.records);
      }
    where
      ps : Additions
      ps = scope_told c0.types headed.parameters

      here : Env
      here = in_body_of c0.types env headed

      nodes : List Placed
      nodes = items_in_turn (in_function (labels s)) here items

      round : IsRound c1 before here (in_function (labels s))
      round =
          record {
            plain =
                record {
                  is_in = in_result c1 (extend (enter env) ps) (option_map (meaning c0.types) headed.returned) (enters.entered env plain.is_in);
                  role = plain.role;
                  in_size = plain.in_size;
                };
            result = ap (option_map (meaning c1.types)) returned ∙ ap (λ t. option_map (meaning t) headed.returned) enters.beside.types;
            stands = around;
          }

      p : Passes at_end c1 c2 behind here (in_function (labels s)) (items_told items here) nodes
      p = walks at_end here (in_function (labels s)) round

      added : Additions
      added = (items_told items here).additions

      left : IsIn c2 (extend (enter env) (both ps added))
      left = subst (IsIn c2) (extend_both (enter env) ps added) (in_result c2 (extend here added) env.result p.walks.behind)

      past_is : past_scope (both ps added) ≡ past_scope (items_add here items)
      past_is = ap (λ ss. record { declared = []; tags = []; structs = ss ++ added.structs }) (no_structs c0.types headed.parameters) ∙ ap past_scope (items_adds items here)

-- ---- a definition

defines_name : (env : Env) (node : Function) (name : NameDeclared) → IsFunctionName env node name → DeclaresName env (ADefinition node) name
defines_name env node name h =
    subst (λ s. DeclaresName env (ADefinition node) (record { is = name.is; spot = s; type = name.type })) (sym h.spot) (by_definition h.has_name h.found h.type)

pub definition_walked : (c0 c1 c2 : Checker) (node : Function) (headed : Headed) → Heads node c0 c1 headed → IsFurther c0 c1 → WalksBody node.body c1 c2 headed → WalksDefinition node c0 c2
definition_walked c0 c1 c2 node headed heads further body at_end env plain =
    record {
      longer = longer_then c0.types c1.types c2.types further.longer w.longer;
      sound = w.sound;
      outside = w.outside ∙ further.outside;
      begun = λ n is. w.begun n (further.begun n is);
      behind = subst (IsIn c2) env_is w.behind;
      keeps = nodes_alone at_end (kept_in c0) (kept_in c2) (at env (ADefinition node) ∷ []) (node_closed at_end env (ADefinition node) false hidden (kept_in c0) (kept_in c2) [] [] kept);
      records = truth_of_names (IsBegunAmong false env node.specifiers) (IsFunctionName env node) at_end c0 c2 env (ADefinition node) refl (defines_name env node) (λ s tag own. own)
          (subst (TellsNamingOf (IsBegunAmong false env node.specifiers) (IsFunctionName env node) at_end c0 c2) (append_assoc specs (d ∷ []) nodes)
          (naming_then (IsBegunAmong false env node.specifiers) (IsFunctionName env node) at_end c0 c1 c2 (specs ++ d ∷ []) nodes further.sound.ready.table_is w.longer h.records w.records));
    }
  where
    h : IsHeaded at_end env c0 c1 node headed
    h = heads at_end env plain

    S : SpecifierTold
    S = specifiers_of env node

    after : Env
    after = behind_specifiers env node

    a : Additions
    a = (declarator_found node.declarator).additions after

    n : Additions
    n = named_additions (extend after a) AtFile S.storages Defined None (declarator_found node.declarator).name (type_defined env node)

    named : Env
    named = behind_declarator S after node

    items : List BlockItem
    items = body_items (out-StmtForm node.body.form)

    inside : Env
    inside = in_body S after node

    inside_is : in_body_of c1.types named headed ≡ inside
    inside_is =
        ap (λ ps. record (extend (enter named) ps) { result = option_map (meaning c1.types) headed.returned }) h.parameters ∙
        ap (λ r. record (extend (enter named) (parameters_of_body after node)) { result = r }) h.returned

    WalksIn : Env → Type 0
    WalksIn e = Walks at_end c1 c2 named (past_scope (items_add e items)) (items_in_turn (in_function (labels node.body)) e items)

    w : WalksIn inside
    w = subst WalksIn inside_is (body at_end named (record { is_in = h.behind; role = plain.role; in_size = plain.in_size }))

    past : Additions
    past = past_body S after node

    env_is : extend named past ≡ extend env (external_adds env (decl.Function node))
    env_is =
        extend_both (extend after a) n past ∙ (extend_both after a (both n past) ∙ extend_both env S.additions (both a (both n past)))

    hidden : (false ≡ true) ↔ IsBroken at_end []
    hidden = ((λ e. absurd (false_true e)), λ broken. absurd (none_broken at_end broken))

    specs : List Placed
    specs = specifiers_parts false env node.specifiers

    d : Placed
    d = at after (ADeclarator (defined_left S at_end after node) node.declarator)

    nodes : List Placed
    nodes = items_in_turn (in_function (labels node.body)) inside items

    walked : KeepsAll at_end (kept_in c1) nodes [] (kept_in c2)
    walked = subst (λ ps. KeepsAll at_end (kept_in c1) ps [] (kept_in c2)) (append-nil nodes) (nodes_first at_end (kept_in c1) (kept_in c2) (kept_in c2) nodes [] [] w.keeps (nothing_left at_end (kept_in c2)))

    kept : KeepsAll at_end (kept_in c0) ((specs ++ d ∷ nodes) ++ []) (codes_at (mark node.spot node.ordinal) (breaches at_end env (ADefinition node)) ∷ []) (kept_in c2)
    kept =
        subst (λ ps. KeepsAll at_end (kept_in c0) ps (codes_at (mark node.spot node.ordinal) (breaches at_end env (ADefinition node)) ∷ []) (kept_in c2)) (sym (append-nil (specs ++ d ∷ nodes)))
        (subst (λ bs. KeepsAll at_end (kept_in c0) (specs ++ d ∷ nodes) (codes_at (mark node.spot node.ordinal) bs ∷ []) (kept_in c2)) (sym (definitions_are_asked at_end env node)) (h.keeps nodes [] (kept_in c2) walked))
