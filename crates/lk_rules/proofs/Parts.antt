-- Which parts of a node have types.
use Rattle.std.proofs.Common.{◌≡◌, ◌∙◌, ◌&&◌, ◌++◌, Bool, true, false, List, [], ◌∷◌, Option, Some, None, ℤ, refl, sym, ap}
use Rattle.std.specs.Prelude.{if◌then◌else◌}
use Rattle.std.proofs.lemmas.Bool.{false≢true}
use Rattle.lk_tree.specs.declared.declaration.Declare.{Declare}
use Rattle.lk_tree.specs.declared.declaration.InitDeclarator.{InitDeclarator}
use Rattle.lk_tree.specs.declared.declaration.Init.{Init}
use Rattle.lk_tree.specs.declared.expression.DeclaratorForm.TheOpen.{DeclaratorForm-F, Specifier-F}
use Rattle.lk_tree.specs.declared.expression.DeclaratorForm.{out-DeclaratorForm}
use Rattle.lk_tree.specs.declared.expression.Declarator.{Declarator}
use Rattle.lk_tree.specs.declared.expression.Expr.{Expr}
use Rattle.lk_tree.specs.declared.expression.Item.{Item, out-Item}
use Rattle.lk_tree.specs.declared.expression.Member.{Member}
use Rattle.lk_tree.specs.declared.expression.Parameter.{Parameter, out-Parameter}
use Rattle.lk_tree.specs.declared.expression.Specifier.{Specifier, out-Specifier}
use Rattle.lk_tree.specs.declared.expression.TypeName.{out-TypeName}
use Rattle.lk_tree.specs.declared.statement.BlockItem.TheOpen.{BlockItem-F, StmtForm-F}
use Rattle.lk_tree.specs.declared.statement.BlockItem.{BlockItem, out-BlockItem}
use Rattle.lk_tree.specs.declared.statement.Stmt.{Stmt}
use Rattle.lk_tree.specs.declared.statement.StmtForm.{StmtForm, out-StmtForm}
use Rattle.lk_typed.specs.DeclarationRules.{Scope}
use Rattle.lk_typed.specs.Declarations.{declarator_adds, is_alone}
use Rattle.lk_typed.specs.Env.{Env, Field, extend, enter}
use Rattle.lk_typed.specs.Expressions.{has_expr_type, item_found, member_found, parameter_found, specifiers_found}
use Rattle.lk_typed.specs.Faults.{Breach}
use Rattle.lk_typed.specs.Labels.{labels}
use Rattle.lk_typed.specs.NodeParts as parts
use Rattle.lk_typed.specs.NodeParts.{body_items, declarators_in_turn, defined_left, in_body, initialiser_part, members_in_turn, type_part_if_there}
use Rattle.lk_typed.specs.NodeRules.{are_typed, has_type, rules_of, those_without_type}
use Rattle.lk_typed.specs.Nodes.{ADeclarator, AMember, AnExpression, AnItem, ADefinition, AParameter, ATypeName, IsParameter, Left, NameUse, Placed, Unnamed, at}
use Rattle.lk_typed.specs.Layers.{pointer_made}
use Rattle.lk_typed.specs.Parts.{declarator_parts, function_left, inner_adds, inner_left, inner_part, is_lone, item_adds, item_around, item_part, items_in_turn, items_parts, array_left, members_parts, parameters_in_turn, perhaps, specifier_parts, specifiers_parts}
use Rattle.lk_typed.specs.StatementRules.{Around, in_function}
use Rattle.lk_typed.specs.Told.{SpecifierTold, before_first, struct_begins}
use Rattle.lk_rules.specs.LayerLaws.{DeclaratorTree, SpecifierTree}
use Rattle.lk_rules.specs.NodeLaws as laws
use Rattle.lk_rules.specs.NodeLaws.{has_type_if_there, initialisers_in_turn, is_size_typed}

-- ---- lists of parts

and_both : (a b c : Bool) → (a && (b && c)) ≡ ((a && b) && c)
and_both true b c = refl
and_both false b c = refl

and_true : (a : Bool) → (a && true) ≡ a
and_true true = refl
and_true false = refl

pub types_of_parts_in_turn : laws.TypesOfPartsInTurn
types_of_parts_in_turn [] qs = refl
types_of_parts_in_turn (p ∷ ps) qs = ap (λ b. has_type p.env p.node && b) (types_of_parts_in_turn ps qs) ∙ and_both (has_type p.env p.node) (are_typed ps) (are_typed qs)

-- parts that have types, then others
typed_then : (ps qs : List Placed) → are_typed ps ≡ true → are_typed (ps ++ qs) ≡ are_typed qs
typed_then ps qs all = types_of_parts_in_turn ps qs ∙ ap (λ b. b && are_typed qs) all

both_typed : (ps qs : List Placed) → are_typed ps ≡ true → are_typed qs ≡ true → are_typed (ps ++ qs) ≡ true
both_typed ps qs all others = typed_then ps qs all ∙ others

left_out : (b : Bool) (p : Placed) (ps qs rs : List Placed) → rs ≡ ps ++ qs → (if b then rs else p ∷ rs) ≡ (if b then ps else p ∷ ps) ++ qs
left_out true p ps qs rs is = is
left_out false p ps qs rs is = ap (λ rs. p ∷ rs) is

pub hiding_parts_in_turn : laws.HidingPartsInTurn
hiding_parts_in_turn [] qs = refl
hiding_parts_in_turn (p ∷ ps) qs = left_out (has_type p.env p.node) p (those_without_type ps) (those_without_type qs) (those_without_type (ps ++ qs)) (hiding_parts_in_turn ps qs)

none_left : (b c : Bool) (p : Placed) (ps : List Placed) → (c ≡ true → ps ≡ []) → (b && c) ≡ true → (if b then ps else p ∷ ps) ≡ []
none_left true c p ps inner all = inner all
none_left false c p ps inner all = absurd (false≢true all)

none_hide : (ps : List Placed) → are_typed ps ≡ true → those_without_type ps ≡ []
none_hide [] all = refl
none_hide (p ∷ ps) all = none_left (has_type p.env p.node) (are_typed ps) p (those_without_type ps) (none_hide ps) all

-- ---- specifiers

members_typed : (env : Env) (before : List Field) (ms : List Member) → are_typed (members_parts env before ms) ≡ true
members_typed env before [] = refl
members_typed env before (m ∷ ms) = let told = member_found m env before in members_typed (extend env told.additions) (before ++ told.fields) ms

items_typed : (env : Env) (before : Option ℤ) (is : List Item) → are_typed (items_parts env before is) ≡ true
items_typed env before [] = refl
items_typed env before (i ∷ is) = let told = item_found i env before in items_typed (extend env told.additions) told.value is

specifier_typed : (env : Env) (form : SpecifierTree) → are_typed (specifier_parts env form) ≡ true
specifier_typed env (Specifier-F.Storage word) = refl
specifier_typed env Specifier-F.Inline = refl
specifier_typed env (Specifier-F.Qualifier word) = refl
specifier_typed env (Specifier-F.Type word) = refl
specifier_typed env (Specifier-F.Struct tag members) = members_typed (extend env (struct_begins env tag)) [] members
specifier_typed env (Specifier-F.StructTag tag) = refl
specifier_typed env (Specifier-F.Enum tag items) = items_typed env before_first items
specifier_typed env (Specifier-F.EnumTag tag) = refl
specifier_typed env (Specifier-F.Typedef name) = refl

pub parts_of_specifiers_have_types : laws.PartsOfSpecifiersHaveTypes
parts_of_specifiers_have_types alone env [] = refl
parts_of_specifiers_have_types alone env (s ∷ ss) =
    both_typed (specifier_parts env (out-Specifier s)) (specifiers_parts alone (extend env (specifiers_found (s ∷ []) env alone).additions) ss) (specifier_typed env (out-Specifier s))
    (parts_of_specifiers_have_types alone (extend env (specifiers_found (s ∷ []) env alone).additions) ss)

-- ---- nodes whose parts all have types

declarator_typed : (env : Env) (told : SpecifierTold) (may_be_absent : Bool) (name : NameUse) (d : Option Declarator) → are_typed (type_part_if_there env told may_be_absent name d) ≡ true
declarator_typed env told may_be_absent name None = refl
declarator_typed env told may_be_absent name (Some d) = refl

type_typed : (env : Env) (may_be_absent : Bool) (name : NameUse) (ss : List Specifier) (d : Option Declarator) → are_typed (parts.type_parts env may_be_absent name ss d) ≡ true
type_typed env may_be_absent name ss d =
    let told = specifiers_found ss env false in
    both_typed (specifiers_parts false env ss) (type_part_if_there (extend env told.additions) told may_be_absent name d) (parts_of_specifiers_have_types false env ss)
    (declarator_typed (extend env told.additions) told may_be_absent name d)

when_typed : (b : Bool) (bs : List Breach) → b ≡ true → (if b then bs else []) ≡ bs
when_typed true bs is = refl
when_typed false bs is = absurd (false≢true is)

pub type_names_are_asked : laws.TypeNamesAreAsked
type_names_are_asked at_end env n =
    when_typed (are_typed (parts.parts at_end env (ATypeName n))) (rules_of env (ATypeName n)) (type_typed env false Unnamed (out-TypeName n).specifiers (out-TypeName n).declarator)

pub parameters_are_asked : laws.ParametersAreAsked
parameters_are_asked at_end env lone p =
    when_typed (are_typed (parts.parts at_end env (AParameter lone p))) (rules_of env (AParameter lone p)) (type_typed env true IsParameter (out-Parameter p).specifiers (out-Parameter p).declarator)

block_items_typed : (around : Around) (env : Env) (is : List BlockItem) → are_typed (items_in_turn around env is) ≡ true
block_items_typed around env [] = refl
block_items_typed around env (i ∷ is) =
    one_item (out-BlockItem i) (block_items_typed (item_around around env (out-BlockItem i)) (extend env (item_adds (out-BlockItem i) env)) is)
  where
    one_item : (form : BlockItem-F BlockItem StmtForm Stmt) → are_typed (items_in_turn (item_around around env form) (extend env (item_adds form env)) is) ≡ true →
        are_typed (item_part around env form ∷ items_in_turn (item_around around env form) (extend env (item_adds form env)) is) ≡ true
    one_item (BlockItem-F.Declare node) others = others
    one_item (BlockItem-F.Stmt inner) others = others

pub definitions_are_asked : laws.DefinitionsAreAsked
definitions_are_asked at_end env node =
    let told = specifiers_found node.specifiers env false in
    let after = extend env told.additions in
    let body = items_in_turn (in_function (labels node.body)) (in_body told after node) (body_items (out-StmtForm node.body.form)) in
    when_typed (are_typed (parts.parts at_end env (ADefinition node))) (rules_of env (ADefinition node))
    (both_typed (specifiers_parts false env node.specifiers) (at after (ADeclarator (defined_left told at_end after node) node.declarator) ∷ body)
    (parts_of_specifiers_have_types false env node.specifiers)
    (block_items_typed (in_function (labels node.body)) (in_body told after node) (body_items (out-StmtForm node.body.form))))

-- ---- nodes with expressions

abbrev asked : Bool → List Breach → List Breach
asked b bs = if b then bs else []

perhaps_typed : (env : Env) (e : Option Expr) → are_typed (perhaps env AnExpression e) ≡ has_type_if_there env e
perhaps_typed env None = refl
perhaps_typed env (Some e) = and_true (has_expr_type e env)

pub items_are_asked : laws.ItemsAreAsked
items_are_asked at_end env before i = ap (λ b. asked b (rules_of env (AnItem before i))) (perhaps_typed env (out-Item i).value)

pub members_are_asked : laws.MembersAreAsked
members_are_asked at_end env before m =
    let told = specifiers_found m.specifiers env false in
    ap (λ b. asked b (rules_of env (AMember before m)))
    (typed_then (specifiers_parts false env m.specifiers) (members_in_turn told (extend env told.additions) before m.declarators) (parts_of_specifiers_have_types false env m.specifiers))

inner_typed : (env : Env) (left : Left) (d : Option Declarator) → are_typed (inner_part env left d) ≡ true
inner_typed env left None = refl
inner_typed env left (Some d) = refl

parameters_typed : (lone : Bool) (env : Env) (ps : List Parameter) → are_typed (parameters_in_turn lone env ps) ≡ true
parameters_typed lone env [] = refl
parameters_typed lone env (p ∷ ps) = parameters_typed lone (extend env (parameter_found p env).additions) ps

form_typed : (env : Env) (left : Left) (form : DeclaratorTree) → are_typed (declarator_parts env left form) ≡ is_size_typed env form
form_typed env left (DeclaratorForm-F.Star qualifiers inner) = inner_typed env (inner_left left (pointer_made left.type)) inner
form_typed env left (DeclaratorForm-F.Named name) = refl
form_typed env left (DeclaratorForm-F.Group inner) = refl
form_typed env left (DeclaratorForm-F.ArrayOf inner size) =
    let behind = extend env (inner_adds inner env) in
    typed_then (inner_part env (array_left env behind left size) inner) (perhaps behind AnExpression size) (inner_typed env (array_left env behind left size) inner) ∙ perhaps_typed behind size
form_typed env left (DeclaratorForm-F.FunctionOf inner ps dots) =
    let behind = extend env (inner_adds inner env) in
    both_typed (inner_part env (function_left behind left ps dots) inner) (parameters_in_turn (is_lone ps dots) (enter behind) ps) (inner_typed env (function_left behind left ps dots) inner)
    (parameters_typed (is_lone ps dots) (enter behind) ps)

pub declarators_are_asked : laws.DeclaratorsAreAsked
declarators_are_asked at_end env left d = ap (λ b. asked b (rules_of env (ADeclarator left d))) (form_typed env left (out-DeclaratorForm d.form))

-- ---- what hides

declarators_hide : (at_end : Env) (scope : Scope) (told : SpecifierTold) (env : Env) (ds : List InitDeclarator) →
    those_without_type (declarators_in_turn at_end scope told env ds) ≡ those_without_type (initialisers_in_turn scope told env ds)
declarators_hide at_end scope told env [] = refl
declarators_hide at_end scope told env (d ∷ ds) =
    let behind = extend env (declarator_adds scope told env d) in
    hiding_parts_in_turn (initialiser_part scope told env d) (declarators_in_turn at_end scope told behind ds) ∙
    ap (λ ps. those_without_type (initialiser_part scope told env d) ++ ps) (declarators_hide at_end scope told behind ds) ∙
    sym (hiding_parts_in_turn (initialiser_part scope told env d) (initialisers_in_turn scope told behind ds))

pub only_initialisers_hide : laws.OnlyInitialisersHide
only_initialisers_hide at_end env scope node =
    let alone = is_alone node.declarators in
    let told = specifiers_found node.specifiers env alone in
    let after = extend env told.additions in
    hiding_parts_in_turn (specifiers_parts alone env node.specifiers) (declarators_in_turn at_end scope told after node.declarators) ∙
    ap (λ ps. ps ++ those_without_type (declarators_in_turn at_end scope told after node.declarators))
    (none_hide (specifiers_parts alone env node.specifiers) (parts_of_specifiers_have_types alone env node.specifiers)) ∙
    declarators_hide at_end scope told after node.declarators
