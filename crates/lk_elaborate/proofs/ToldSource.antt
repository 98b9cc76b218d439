-- What the checker found of a numbered source is true of its nodes, as its typed tree asks for it.
use Rattle.std.proofs.Common.{◌≡◌, ◌∙◌, ℕ, Bool, true, false, List, [], ◌∷◌, Option, Some, None, length, map, refl, sym, ap, subst, inl, inr, arith, nat_eq}
use Rattle.std.specs.Prelude.{if◌then◌else◌, slice_get, unwrap_or}
use Rattle.std.specs.Map.{lookup}
use Rattle.std.specs.Option.{option_map}
use Rattle.std.proofs.lemmas.Bool.Decides.{nat_tests}
use Rattle.std.proofs.lemmas.Option.{slice_get-map}
use Rattle.std.proofs.lemmas.List.{length-map}
use Rattle.lk_tree.specs.Numbers.{numbered}
use Rattle.lk_tree.specs.declared.declaration.Declare.{Declare}
use Rattle.lk_tree.specs.declared.declaration.InitDeclarator.{InitDeclarator}
use Rattle.lk_tree.specs.declared.statement.Function.{Function as Definition}
use Rattle.lk_tree.specs.declared.declaration.Init.{Init, out-Init}
use Rattle.lk_tree.specs.declared.declaration.Init.TheOpen.{Init-F}
use Rattle.lk_tree.specs.declared.expression.DeclaratorForm.TheOpen.{ExprForm-F}
use Rattle.lk_tree.specs.declared.expression.Expr.{Expr}
use Rattle.lk_tree.specs.declared.expression.ExprForm.{out-ExprForm}
use Rattle.lk_tree.specs.declared.expression.TypeName.{TypeName, out-TypeName}
use Rattle.lk_tree.specs.declared.statement.Unit.{Unit}
use Rattle.lk_types.specs.Table.{Table}
use Rattle.lk_typed.specs.Elaborated.{StandsFor, members_behind, name_in, type_named}
use Rattle.lk_typed.specs.Forms.{placed}
use Rattle.lk_typed.specs.DeclarationRules.{Scope}
use Rattle.lk_typed.specs.Entities.{DeclaresName, IsDeclaratorOf, NameDeclared, defined_type, specifiers_of}
use Rattle.lk_typed.specs.Env.{Declared, Env, Field, Known, Name, NotYet, is_one_of, members_of}
use Rattle.lk_typed.specs.Expressions.{AnotherForm, AText, AWord, Plainly, expr_word, expression, plainly, written, declarator_found}
use Rattle.lk_typed.specs.InitialiserRules.{Object}
use Rattle.lk_typed.specs.Meaning.{meaning, IsReady}
use Rattle.lk_typed.specs.NodeParts.{parts, type_declared}
use Rattle.lk_typed.specs.NodeRules.{breaches, hiding, mark_of}
use Rattle.lk_typed.specs.Nodes.{ADeclaration, ADefinition, AnExpression, AnInitialiser, ATypeName, Node}
use Rattle.lk_typed.specs.Stands.{IsIn as IsAmong, Stands}
use Rattle.lk_typed.specs.Stands.Stands.{here, inside}
use Rattle.lk_typed.specs.Told.{Named}
use Rattle.lk_typed.specs.Ty.{Ty}
use Rattle.lk_typed.specs.Typings.{field_in, members_in, structs_in}
use Rattle.lk_typed.specs.Units.{IsNode, at_end, externals}
use Rattle.lk_typed.specs.Units.IsNode.{node_of}
use Rattle.lk_typed.specs.declared.members.Field.{Field as FieldFound}
use Rattle.lk_typed.specs.declared.members.Members.{Members as MembersFound}
use Rattle.lk_typed.specs.declared.members.Members.TheVariants as members
use Rattle.lk_nodes.specs.Settled.{AreSettled}
use Rattle.lk_nodes.proofs.Environments.{known_structs_stay, outside_stays}
use Rattle.lk_nodes.proofs.Names.{declared_names_have_types, defined_names_have_types, names_are_told_apart}
use Rattle.lk_nodes.proofs.Sources.{expressions_are_told_apart, type_names_are_told_apart, values_are_told_apart}
use Rattle.lk_names.specs.InScope.{IsKnownScope}
use Rattle.lk_checker.specs.Sources.{IsOutsideOf, RecordsOf}
use Rattle.lk_found.proofs.Forms.{Layer}
use Rattle.lk_found.specs.Structs.{AreListed}
use Rattle.lk_found.specs.Truth.{IsSoInside}
use Rattle.lk_found.specs.Uses.{found_by, name_written, word_in}
use Rattle.lk_found.specs.Findings.{IsDeclaredAs, IsFound, IsOfKind}
use Rattle.lk_found.specs.declared.found.Found.{Found}
use Rattle.lk_found.specs.declared.records.DeclaredHere.{DeclaredHere}
use Rattle.lk_found.specs.declared.records.InitialiserKind.{InitialiserKind}
use Rattle.lk_found.specs.declared.records.Meant.{Meant}
use Rattle.lk_elaborator.specs.Telling.{HasFields, IsMeant, IsTold, IsTrueOf, IsTrueOfName}
use Rattle.lk_elaborator.specs.declared.elaborator.Elaborator.{Elaborator}
use Rattle.lk_elab_init.specs.Source.{IsToldSource}

-- ---- entries

same_number : (m n : ℕ) → nat_eq m n ≡ true → m ≡ n
same_number m n is = grind (arith, nat_tests)

-- what is looked up is among the entries
pub entry_found : {V : Type 0} (entries : List (ℕ × V)) (k : ℕ) (v : V) → lookup (nat_eq k) entries ≡ Some v → IsAmong (k, v) entries
entry_found [] k v is = absurd (none_is v is)
  where
    none_is : {V : Type 0} (v : V) → ◌≡◌ {A = Option V} None (Some v) → ⊥
    none_is v is = cc
entry_found {V} (x ∷ entries) k v is = by_test (λ is. entry_found entries k v is) (nat_eq k x.0) refl is
  where
    some_is : (a b : V) → ◌≡◌ {A = Option V} (Some a) (Some b) → a ≡ b
    some_is a b is = cc

    pair_is : (a b : ℕ) (u v : V) → a ≡ b → u ≡ v → ◌≡◌ {A = ℕ × V} (a, u) (b, v)
    pair_is a b u v p q = cc

    by_test : (lookup (nat_eq k) entries ≡ Some v → IsAmong (k, v) entries) → (b : Bool) → nat_eq k x.0 ≡ b → (if b then Some x.1 else lookup (nat_eq k) entries) ≡ Some v → IsAmong (k, v) (x ∷ entries)
    by_test rest true same is = inl (pair_is k x.0 v x.1 (same_number k x.0 same) (sym (some_is x.1 v is)))
    by_test rest false other is = inr (rest is)

-- ---- the name that an expression is

is_word : (layer : Layer) (name : Name) → plainly layer ≡ AWord name → layer ≡ ExprForm-F.Word name
is_word (ExprForm-F.Comma left right) name is = cc
is_word (ExprForm-F.Assign op left right) name is = cc
is_word (ExprForm-F.Choice condition taken other) name is = cc
is_word (ExprForm-F.Binary op left right) name is = cc
is_word (ExprForm-F.Cast type operand) name is = cc
is_word (ExprForm-F.Pre op operand) name is = cc
is_word (ExprForm-F.Prefix op operand) name is = cc
is_word (ExprForm-F.SizeofExpr operand) name is = cc
is_word (ExprForm-F.SizeofType type) name is = cc
is_word (ExprForm-F.Index array inner) name is = cc
is_word (ExprForm-F.Call function arguments) name is = cc
is_word (ExprForm-F.Member object member) name is = cc
is_word (ExprForm-F.Arrow pointer member) name is = cc
is_word (ExprForm-F.Post op operand) name is = cc
is_word (ExprForm-F.Word word) name is = cc
is_word (ExprForm-F.Number kind number) name is = cc
is_word (ExprForm-F.Char number) name is = cc
is_word (ExprForm-F.Text bytes) name is = cc
is_word (ExprForm-F.Paren inner) name is = cc

stands_for : (env : Env) (e : Expr) (d : Declared) (w : Plainly) → written e ≡ w → found_by env (name_written w) ≡ Some d → StandsFor (env, e) d
stands_for env e d (AWord name) is found = (name, form_is (out-ExprForm e.form) (is_word (out-ExprForm e.form) name is), found)
  where
    form_is : (layer : Layer) → layer ≡ ExprForm-F.Word name → placed expression name_in env layer ≡ ExprForm-F.Word name
    form_is layer same = ap (placed expression name_in env) same
stands_for env e d (AText bytes) is found = cc
stands_for env e d AnotherForm is found = cc

-- ---- structs

known_found : (table : Table) (o : Option MembersFound) (fields : List Field) → unwrap_or (option_map (members_in table) o) NotYet ≡ Known fields →
    (found : List FieldFound) × (o ≡ Some (members.Known found)) × (map (field_in table) found ≡ fields)
known_found table None fields is = cc
known_found table (Some members.NotYet) fields is = cc
known_found table (Some members.Begun) fields is = cc
known_found table (Some (members.Known found)) fields is = (found, refl, known_is (map (field_in table) found) fields is)
  where
    known_is : (xs ys : List Field) → Known xs ≡ Known ys → xs ≡ ys
    known_is xs ys is = cc
known_found table (Some members.Faulty) fields is = cc

names_of : (table : Table) (found : List FieldFound) → map (λ (field : Field). field.name) (map (field_in table) found) ≡ map (λ (field : FieldFound). field.name) found
names_of table [] = refl
names_of table (field ∷ found) = ap (λ names. field.name ∷ names) (names_of table found)

-- ---- the source

module _ (externs : List Name) (before unit : Unit) (is : unit ≡ numbered before) (walk : Elaborator) where
  abbrev end : Env
  end = at_end externs unit

  abbrev StandsIn : Env → Node → Env → Node → Type 0
  StandsIn env node env' node' = Stands (parts end) (breaches end) (hiding end) mark_of env node env' node'

  stands_then : {env env' env'' : Env} {node node' node'' : Node} → StandsIn env node env' node' → StandsIn env' node' env'' node'' → StandsIn env node env'' node''
  stands_then here g = g
  stands_then (inside part among f) g = inside part among (stands_then f g)

  -- what stands in a node of the source is one
  node_in : {env env' : Env} {node node' : Node} → IsNode externs unit env node → StandsIn env node env' node' → IsNode externs unit env' node'
  node_in (node_of external among stands) inner = node_of external among (stands_then stands inner)

  -- an entry is true of a node of the source
  of_node : {IsSo : Env → Node → Type 0} → (so : IsSoInside end (externals externs unit) IsSo) → IsNode externs unit so.env so.node
  of_node so = node_of so.outer so.among so.stands

  module _ (records : RecordsOf externs unit walk.types walk.records) where
    found_told : (env : Env) (e : Expr) (f : Found) → IsNode externs unit env (AnExpression e) → lookup (nat_eq e.ordinal) walk.records.founds ≡ Some f → IsFound walk.types env f (expression e env)
    found_told env e f node at =
        let so = records.founds e.ordinal f (entry_found walk.records.founds e.ordinal f at) in
        let x = so.is_so in
        let same = expressions_are_told_apart externs before unit is so.env env x.e e (subst (IsNode externs unit so.env) x.is (of_node so)) node (sym x.number) in
        subst (λ env. IsFound walk.types env f (expression e env)) same.0 (subst (λ e. IsFound walk.types so.env f (expression e so.env)) same.1 x.found)

    meant_told : (env : Env) (e : Expr) (m : Meant) → IsNode externs unit env (AnExpression e) → lookup (nat_eq e.ordinal) walk.records.meant ≡ Some m → IsMeant walk.types (env, e) m
    meant_told env e m node at =
        let so = records.meant e.ordinal m (entry_found walk.records.meant e.ordinal m at) in
        let x = so.is_so in
        let same = expressions_are_told_apart externs before unit is so.env env x.e e (subst (IsNode externs unit so.env) x.is (of_node so)) node (sym x.number) in
        let found = subst (λ env. word_in env e ≡ Some x.declared) same.0 (subst (λ e. word_in so.env e ≡ Some x.declared) same.1 x.found) in
        record {
          declared = x.declared;
          stands = stands_for env e x.declared (written e) refl found;
          ordinal = sym x.stands_for.ordinal;
          meaning = sym x.stands_for.meaning;
          known = x.stands_for.known;
        }

    name_told : (env : Env) (n : TypeName) → IsNode externs unit env (ATypeName n) → IsTrueOfName walk (env, n)
    name_told env n node t at =
        let so = records.named (out-TypeName n).ordinal t (entry_found walk.records.named (out-TypeName n).ordinal t at) in
        let x = so.is_so in
        let same = type_names_are_told_apart externs before unit is so.env env x.name n (subst (IsNode externs unit so.env) x.is (of_node so)) node (sym x.number) in
        (x.known, subst (λ env. type_named (env, n) ≡ Some (meaning walk.types t)) same.0 (subst (λ n. type_named (so.env, n) ≡ Some (meaning walk.types t)) same.1 x.type))

    initialisers_told : (env : Env) (object : Option Object) (init : Init) (e : Expr) (kind : InitialiserKind) → IsNode externs unit env (AnInitialiser object init) → out-Init init ≡ Init-F.Expr e →
        lookup (nat_eq e.ordinal) walk.records.initialisers ≡ Some kind → IsOfKind walk.types kind (expr_word e env)
    initialisers_told env object init e kind node form at =
        let so = records.initialisers e.ordinal kind (entry_found walk.records.initialisers e.ordinal kind at) in
        let x = so.is_so in
        let same = values_are_told_apart externs before unit is so.env env x.object object x.init init x.e e (subst (IsNode externs unit so.env) x.is (of_node so)) node x.form form (sym x.number) in
        subst (λ env. IsOfKind walk.types kind (expr_word e env)) same.0 (subst (λ e. IsOfKind walk.types kind (expr_word e so.env)) same.2 x.kind_is)

    declared_told : (env : Env) (node : Node) (n : NameDeclared) (d : DeclaredHere) → IsNode externs unit env node → DeclaresName env node n →
        lookup (nat_eq n.is.ordinal) walk.records.declared ≡ Some d → IsDeclaredAs walk.types d n
    declared_told env node n d node_is declares at =
        let so = records.declared n.is.ordinal d (entry_found walk.records.declared n.is.ordinal d at) in
        let x = so.is_so in
        let same = names_are_told_apart externs before unit is so.env env so.node node x.name n (of_node so) x.declares node_is declares (sym x.number) in
        subst (IsDeclaredAs walk.types d) same.2 x.declared_as

    -- what was recorded of a declarator has a type
    declared_type_told : (env : Env) (scope : Scope) (node : Declare) (here : Env) (d : InitDeclarator) (named : Named) (declared : DeclaredHere) → IsNode externs unit env (ADeclaration scope node) →
        IsDeclaratorOf scope env node here d → (declarator_found d.declarator).name ≡ Some named → lookup (nat_eq named.ordinal) walk.records.declared ≡ Some declared →
        (t : Ty) × (type_declared scope (specifiers_of env node) here d ≡ Some t)
    declared_type_told env scope node behind d named declared node_is among name at =
        let so = records.declared named.ordinal declared (entry_found walk.records.declared named.ordinal declared at) in
        let x = so.is_so in
        (x.name.type, declared_names_have_types externs before unit is scope env node behind d named so.env so.node x.name node_is among name (of_node so) x.declares x.number)

    defined_type_told : (env : Env) (node : Definition) (named : Named) (declared : DeclaredHere) → IsNode externs unit env (ADefinition node) → (declarator_found node.declarator).name ≡ Some named →
        lookup (nat_eq named.ordinal) walk.records.declared ≡ Some declared → (t : Ty) × (defined_type env node ≡ Some t)
    defined_type_told env node named declared node_is name at =
        let so = records.declared named.ordinal declared (entry_found walk.records.declared named.ordinal declared at) in
        let x = so.is_so in
        (x.name.type, defined_names_have_types externs before unit is env node named so.env so.node x.name node_is name (of_node so) x.declares x.number)

    module _ (ready : IsReady walk.types) (outside : IsOutsideOf walk.outside externs unit) (structs : structs_in walk.types walk.names.structs ≡ end.structs) where
      has_fields : (env : Env) (e : Expr) (s : ℕ) (fields : List Field) → IsNode externs unit env (AnExpression e) → members_behind (env, e) s ≡ Known fields → HasFields walk s fields
      has_fields env e s fields node known =
          let at = ap (λ o. unwrap_or o NotYet) (sym (slice_get-map (members_in walk.types) walk.names.structs s)) ∙ ap (λ structs. members_of structs s) structs ∙ known_structs_stay externs unit env e s fields node known in
          let found = known_found walk.types (slice_get walk.names.structs s) fields at in
          (found.0, found.1, sym (names_of walk.types found.0) ∙ ap (map (λ (field : Field). field.name)) found.2)

      true_of : (env : Env) (e : Expr) → IsNode externs unit env (AnExpression e) → IsTrueOf walk (env, e)
      true_of env e node = record {
        ready = ready;
        found = λ f at. found_told env e f node at;
        meant = λ m at. meant_told env e m node at;
        structs = λ s fields known. has_fields env e s fields node known;
        defined = λ name. ap (λ o. is_one_of o.defined name) (outside_stays externs unit env (AnExpression e) node) ∙ outside.defined name;
        externs = λ name. ap (λ o. is_one_of o.externs name) (outside_stays externs unit env (AnExpression e) node) ∙ outside.listed name;
      }

      told : (env : Env) (node : Node) → IsNode externs unit env node → IsTold end walk env node
      told env node is_node = record {
        ready = ready;
        expressions = λ env' e stands. true_of env' e (node_in is_node stands);
        names = λ env' n stands. name_told env' n (node_in is_node stands);
      }

      pub told_source : IsKnownScope walk.types walk.names → AreListed walk.types walk.names.structs → length walk.records.tags ≡ length walk.names.structs → AreSettled externs unit → IsToldSource externs unit walk
      told_source known listed counted settled = record {
        ready = ready;
        told = told;
        initialisers = initialisers_told;
        declared = declared_told;
        declared_type = declared_type_told;
        defined_type = defined_type_told;
        uses = records.uses;
        taken = records.taken;
        structs = structs;
        listed = listed;
        fields = known.members;
        tags = record { count = counted ∙ sym (length-map walk.names.structs (members_in walk.types)) ∙ ap length structs; each = records.tags };
        settled = settled;
      }
