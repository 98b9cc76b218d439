-- Nodes in which nothing is declared: expressions, initialisers, declarators, specifiers and what stands in them.
use Rattle.std.proofs.Common.{inl, inr, ℕ, ℤ, suc, Bool, false, List, [], ◌∷◌, ◌++◌, Option, Some, None, map, subst, sym}
use Rattle.std.specs.Prelude.{⊤}
use Rattle.lk_tree.specs.declared.declaration.Designator.{Designator}
use Rattle.lk_tree.specs.declared.declaration.Designator.TheVariants as designator
use Rattle.lk_tree.specs.declared.declaration.Entry.{Entry}
use Rattle.lk_tree.specs.declared.declaration.Init.TheOpen.{Init-F}
use Rattle.lk_tree.specs.declared.declaration.Init.{Init, out-Init}
use Rattle.lk_tree.specs.declared.declaration.InitDeclarator.{InitDeclarator}
use Rattle.lk_tree.specs.declared.declaration.InitList.{InitList, out-InitList}
use Rattle.lk_tree.specs.declared.expression.Declarator.{Declarator}
use Rattle.lk_tree.specs.declared.expression.DeclaratorForm.TheOpen.{DeclaratorForm-F, ExprForm-F, MemberDeclarator-F, Specifier-F}
use Rattle.lk_tree.specs.declared.expression.DeclaratorForm.{DeclaratorForm, out-DeclaratorForm}
use Rattle.lk_tree.specs.declared.expression.Expr.{Expr}
use Rattle.lk_tree.specs.declared.expression.ExprForm.{ExprForm, out-ExprForm}
use Rattle.lk_tree.specs.declared.expression.Item.{Item, out-Item}
use Rattle.lk_tree.specs.declared.expression.Member.{Member}
use Rattle.lk_tree.specs.declared.expression.MemberDeclarator.{MemberDeclarator, out-MemberDeclarator}
use Rattle.lk_tree.specs.declared.expression.Parameter.{Parameter, out-Parameter}
use Rattle.lk_tree.specs.declared.expression.Specifier.{Specifier, out-Specifier}
use Rattle.lk_tree.specs.declared.expression.TypeName.{TypeName, out-TypeName}
use Rattle.lk_typed.specs.Declarations.{declarator_adds}
use Rattle.lk_typed.specs.DeclarationRules.{Scope}
use Rattle.lk_typed.specs.Env.{Env, Field, extend}
use Rattle.lk_typed.specs.ExprRules as rules
use Rattle.lk_typed.specs.Expressions.{at_pair, expression, named, specifiers_found, type_found}
use Rattle.lk_typed.specs.Forms.{in_place, placed_arguments}
use Rattle.lk_typed.specs.InitialiserRules.{Object}
use Rattle.lk_typed.specs.Initialisers.{designator_part, designator_parts, designators_add, entries_in_turn, init_adds, parts_of_init, unless_word}
use Rattle.lk_typed.specs.Library.{Passing}
use Rattle.lk_typed.specs.NodeParts.{declarators_in_turn, initialiser_part, member_part, members_in_turn, parts, type_part_if_there, type_parts}
use Rattle.lk_typed.specs.NodeRules.{breaches, hiding, mark_of}
use Rattle.lk_typed.specs.Nodes.{Node, AnExternal, ADeclaration, ADefinition, AMember, AnItem, AParameter, ATypeName, ADeclarator, AnInitialiser, AStatement, AnExpression, Placed, Left, NameUse}
use Rattle.lk_typed.specs.Parts.{declarator_parts, inner_part, items_parts, members_parts, parameters_in_turn, perhaps, specifier_parts, specifiers_parts}
use Rattle.lk_typed.specs.Stands.{IsIn, Stands}
use Rattle.lk_typed.specs.Stands.Stands.{here, inside}
use Rattle.lk_typed.specs.Told.{SpecifierTold}
use Rattle.lk_typed.specs.Ty.{Ty}
use Rattle.lk_typed.specs.Typing.{Named}

-- no declaration, definition, statement or external declaration
abbrev pub IsQuiet : Node → Type 0
IsQuiet (AnExternal d) = ⊥
IsQuiet (ADeclaration scope node) = ⊥
IsQuiet (ADefinition node) = ⊥
IsQuiet (AMember before m) = ⊤
IsQuiet (AnItem before i) = ⊤
IsQuiet (AParameter lone p) = ⊤
IsQuiet (ATypeName n) = ⊤
IsQuiet (ADeclarator left d) = ⊤
IsQuiet (AnInitialiser object init) = ⊤
IsQuiet (AStatement around s) = ⊥
IsQuiet (AnExpression e) = ⊤

abbrev pub AreQuiet : List Placed → Type 0
AreQuiet [] = ⊤
AreQuiet (p ∷ ps) = IsQuiet p.node × AreQuiet ps

pub both_quiet : (ps qs : List Placed) → AreQuiet ps → AreQuiet qs → AreQuiet (ps ++ qs)
both_quiet [] qs first others = others
both_quiet (p ∷ ps) qs first others = (first.0, both_quiet ps qs first.1 others)

-- what is found of a type name
abbrev name_found : TypeName → Env → Named
name_found n env = named (type_found n) env

pub perhaps_quiet : {A : Type 0} (env : Env) (node : A → Node) (part : Option A) → ((a : A) → IsQuiet (node a)) → AreQuiet (perhaps env node part)
perhaps_quiet env node None each = tt
perhaps_quiet env node (Some a) each = (each a, tt)

pub value_quiet : (env : Env) (e : Option Expr) → AreQuiet (perhaps env AnExpression e)
value_quiet env e = perhaps_quiet env AnExpression e (λ e. tt)

-- ---- expressions

arguments_quiet : (xs : List Expr) (env : Env) (passes : List Passing) → AreQuiet (map at_pair (map (in_place AnExpression) (placed_arguments expression env passes xs)))
arguments_quiet [] env passes = tt
arguments_quiet (x ∷ xs) env [] = (tt, arguments_quiet xs _ [])
arguments_quiet (x ∷ xs) env (pass ∷ passes) = (tt, arguments_quiet xs _ passes)

abbrev ExprLayer : Type 0
ExprLayer = ExprForm-F DeclaratorForm ExprForm MemberDeclarator Specifier Declarator Expr Item Member Parameter TypeName

form_quiet : (x : ExprLayer) (env : Env) → AreQuiet (map at_pair (rules.parts AnExpression ATypeName expression name_found env x))
form_quiet (ExprForm-F.Comma left right) env = (tt, (tt, tt))
form_quiet (ExprForm-F.Assign op left right) env = (tt, (tt, tt))
form_quiet (ExprForm-F.Choice condition taken other) env = (tt, (tt, (tt, tt)))
form_quiet (ExprForm-F.Binary op left right) env = (tt, (tt, tt))
form_quiet (ExprForm-F.Cast type operand) env = (tt, (tt, tt))
form_quiet (ExprForm-F.Pre op operand) env = (tt, tt)
form_quiet (ExprForm-F.Prefix op operand) env = (tt, tt)
form_quiet (ExprForm-F.SizeofExpr operand) env = (tt, tt)
form_quiet (ExprForm-F.SizeofType type) env = (tt, tt)
form_quiet (ExprForm-F.Index array inner) env = (tt, (tt, tt))
form_quiet (ExprForm-F.Call function arguments) env = (tt, arguments_quiet arguments _ _)
form_quiet (ExprForm-F.Member object member) env = (tt, tt)
form_quiet (ExprForm-F.Arrow pointer member) env = (tt, tt)
form_quiet (ExprForm-F.Post op operand) env = (tt, tt)
form_quiet (ExprForm-F.Word word) env = tt
form_quiet (ExprForm-F.Number kind number) env = tt
form_quiet (ExprForm-F.Char number) env = tt
form_quiet (ExprForm-F.Text bytes) env = tt
form_quiet (ExprForm-F.Paren inner) env = (tt, tt)

-- ---- specifiers

members_quiet : (ms : List Member) (env : Env) (before : List Field) → AreQuiet (members_parts env before ms)
members_quiet [] env before = tt
members_quiet (m ∷ ms) env before = (tt, members_quiet ms _ _)

items_quiet : (is : List Item) (env : Env) (before : Option ℤ) → AreQuiet (items_parts env before is)
items_quiet [] env before = tt
items_quiet (i ∷ is) env before = (tt, items_quiet is _ _)

abbrev SpecifierLayer : Type 0
SpecifierLayer = Specifier-F DeclaratorForm ExprForm MemberDeclarator Specifier Declarator Expr Item Member Parameter TypeName

specifier_quiet : (x : SpecifierLayer) (env : Env) → AreQuiet (specifier_parts env x)
specifier_quiet (Specifier-F.Storage word) env = tt
specifier_quiet Specifier-F.Inline env = tt
specifier_quiet (Specifier-F.Qualifier word) env = tt
specifier_quiet (Specifier-F.Type word) env = tt
specifier_quiet (Specifier-F.Struct tag members) env = members_quiet members _ []
specifier_quiet (Specifier-F.StructTag tag) env = tt
specifier_quiet (Specifier-F.Enum tag items) env = items_quiet items env _
specifier_quiet (Specifier-F.EnumTag tag) env = tt
specifier_quiet (Specifier-F.Typedef name) env = tt

pub specifiers_quiet : (alone : Bool) (ss : List Specifier) (env : Env) → AreQuiet (specifiers_parts alone env ss)
specifiers_quiet alone [] env = tt
specifiers_quiet alone (x ∷ xs) env = both_quiet _ _ (specifier_quiet (out-Specifier x) env) (specifiers_quiet alone xs _)

-- ---- declarators

inner_quiet : (env : Env) (left : Left) (inner : Option Declarator) → AreQuiet (inner_part env left inner)
inner_quiet env left None = tt
inner_quiet env left (Some d) = (tt, tt)

parameters_quiet : (lone : Bool) (ps : List Parameter) (env : Env) → AreQuiet (parameters_in_turn lone env ps)
parameters_quiet lone [] env = tt
parameters_quiet lone (p ∷ ps) env = (tt, parameters_quiet lone ps _)

abbrev DeclaratorLayer : Type 0
DeclaratorLayer = DeclaratorForm-F DeclaratorForm ExprForm MemberDeclarator Specifier Declarator Expr Item Member Parameter TypeName

declarator_quiet : (x : DeclaratorLayer) (env : Env) (left : Left) → AreQuiet (declarator_parts env left x)
declarator_quiet (DeclaratorForm-F.Star qualifiers inner) env left = inner_quiet env _ inner
declarator_quiet (DeclaratorForm-F.Named name) env left = tt
declarator_quiet (DeclaratorForm-F.Group inner) env left = (tt, tt)
declarator_quiet (DeclaratorForm-F.ArrayOf inner size) env left = both_quiet _ _ (inner_quiet env _ inner) (value_quiet _ size)
declarator_quiet (DeclaratorForm-F.FunctionOf inner ps dots) env left = both_quiet _ _ (inner_quiet env _ inner) (parameters_quiet _ ps _)

-- ---- members, parameters and type names

type_quiet : (env : Env) (told : SpecifierTold) (may_be_absent : Bool) (name : NameUse) (d : Option Declarator) → AreQuiet (type_part_if_there env told may_be_absent name d)
type_quiet env told may_be_absent name None = tt
type_quiet env told may_be_absent name (Some d) = (tt, tt)

types_quiet : (env : Env) (may_be_absent : Bool) (name : NameUse) (ss : List Specifier) (d : Option Declarator) → AreQuiet (type_parts env may_be_absent name ss d)
types_quiet env may_be_absent name ss d = both_quiet _ _ (specifiers_quiet false ss env) (type_quiet _ (specifiers_found ss env false) may_be_absent name d)

abbrev FieldLayer : Type 0
FieldLayer = MemberDeclarator-F DeclaratorForm ExprForm MemberDeclarator Specifier Declarator Expr Item Member Parameter TypeName

field_quiet : (x : FieldLayer) (env : Env) (told : SpecifierTold) (before : List Field) → AreQuiet (member_part env told before x)
field_quiet (MemberDeclarator-F.Plain inner) env told before = (tt, tt)
field_quiet (MemberDeclarator-F.Field inner width) env told before = (tt, (tt, tt))
field_quiet (MemberDeclarator-F.Unnamed width) env told before = (tt, tt)

fields_quiet : (told : SpecifierTold) (ds : List MemberDeclarator) (env : Env) (before : List Field) → AreQuiet (members_in_turn told env before ds)
fields_quiet told [] env before = tt
fields_quiet told (d ∷ ds) env before = both_quiet _ _ (field_quiet (out-MemberDeclarator d) env told before) (fields_quiet told ds _ _)

-- ---- initialisers

designator_quiet : (d : Designator) (env : Env) → AreQuiet (designator_part env d)
designator_quiet (designator.Member name) env = tt
designator_quiet (designator.Index e) env = (tt, tt)

designators_quiet : (ds : List Designator) (env : Env) → AreQuiet (designator_parts env ds)
designators_quiet [] env = tt
designators_quiet (d ∷ ds) env = both_quiet _ _ (designator_quiet d env) (designators_quiet ds _)

entries_quiet : (object : Option Object) (text : Option ℕ) (es : List Entry) (env : Env) (k : ℕ) → AreQuiet (entries_in_turn object text env k es)
entries_quiet object text [] env k = tt
entries_quiet object text (e ∷ es) env k =
    let others : AreQuiet (entries_in_turn object text (extend (extend env (designators_add env e.designators)) (init_adds e.init (extend env (designators_add env e.designators)))) (suc k) es) =
    entries_quiet object text es _ _ in
    both_quiet _ _ (designators_quiet e.designators env) (tt, others)

unless_word_quiet : (word : Option Ty) (part : Placed) → IsQuiet part.node → AreQuiet (unless_word word (part ∷ []))
unless_word_quiet None part is = (is, tt)
unless_word_quiet (Some lock) part is = tt

init_quiet : (x : Init-F Init Entry InitList) (object : Option Object) (env : Env) → AreQuiet (parts_of_init object env x)
init_quiet (Init-F.Expr e) object env = unless_word_quiet _ _ tt
init_quiet (Init-F.List list) object env = entries_quiet object _ (out-InitList list).entries env _

-- ---- declarators of a declaration, with their initialisers

pub initialiser_quiet : (scope : Scope) (told : SpecifierTold) (env : Env) (d : InitDeclarator) → AreQuiet (initialiser_part scope told env d)
initialiser_quiet scope told env d = perhaps_quiet _ _ d.init (λ init. tt)

pub declarators_quiet : (at_end : Env) (scope : Scope) (told : SpecifierTold) (ds : List InitDeclarator) (env : Env) → AreQuiet (declarators_in_turn at_end scope told env ds)
declarators_quiet at_end scope told [] env = tt
declarators_quiet at_end scope told (d ∷ ds) env = (tt, both_quiet _ _ (initialiser_quiet scope told env d) (declarators_quiet at_end scope told ds (extend env (declarator_adds scope told env d))))

-- ---- all nodes

-- what stands in such a node is one
pub parts_quiet : (at_end env : Env) (node : Node) → IsQuiet node → AreQuiet (parts at_end env node)
parts_quiet at_end env (AnExternal d) is = absurd is
parts_quiet at_end env (ADeclaration scope node) is = absurd is
parts_quiet at_end env (ADefinition node) is = absurd is
parts_quiet at_end env (AMember before m) is =
    let told = specifiers_found m.specifiers env false in both_quiet _ _ (specifiers_quiet false m.specifiers env) (fields_quiet told m.declarators (extend env told.additions) before)
parts_quiet at_end env (AnItem before i) is = value_quiet env (out-Item i).value
parts_quiet at_end env (AParameter lone p) is = types_quiet env _ _ (out-Parameter p).specifiers (out-Parameter p).declarator
parts_quiet at_end env (ATypeName n) is = types_quiet env _ _ (out-TypeName n).specifiers (out-TypeName n).declarator
parts_quiet at_end env (ADeclarator left d) is = declarator_quiet (out-DeclaratorForm d.form) env left
parts_quiet at_end env (AnInitialiser object init) is = init_quiet (out-Init init) object env
parts_quiet at_end env (AStatement around s) is = absurd is
parts_quiet at_end env (AnExpression e) is = form_quiet (out-ExprForm e.form) env

pub among_quiet : (ps : List Placed) (p : Placed) → IsIn p ps → AreQuiet ps → IsQuiet p.node
among_quiet [] p there quiet = absurd there
among_quiet (q ∷ ps) p (inl is) quiet = subst (λ (r : Placed). IsQuiet r.node) (sym is) quiet.0
among_quiet (q ∷ ps) p (inr there) quiet = among_quiet ps p there quiet.1

pub stands_quiet : (at_end : Env) {env env' : Env} {node node' : Node} → Stands (parts at_end) (breaches at_end) (hiding at_end) mark_of env node env' node' → IsQuiet node → IsQuiet node'
stands_quiet at_end here is = is
stands_quiet at_end (inside {env = env} {node = node} part there inner) is = stands_quiet at_end inner (among_quiet _ part there (parts_quiet at_end env node is))
