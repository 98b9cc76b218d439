-- Initialisers are parts of declarations and of initialisers alone: a part of another node has no object.
use Rattle.std.proofs.Common.{◌≡◌, ◌⊎◌, inl, inr, ℤ, Bool, true, false, List, [], ◌∷◌, ◌++◌, Option, Some, None, map, refl, sym, subst}
use Rattle.std.specs.Prelude.{⊤}
use Rattle.lk_tree.specs.declared.declaration.Designator.{Designator}
use Rattle.lk_tree.specs.declared.declaration.Designator.TheVariants as designator
use Rattle.lk_tree.specs.declared.expression.DeclaratorForm.TheOpen.{DeclaratorForm-F, ExprForm-F, MemberDeclarator-F, Specifier-F}
use Rattle.lk_tree.specs.declared.expression.DeclaratorForm.{out-DeclaratorForm}
use Rattle.lk_tree.specs.declared.expression.Declarator.{Declarator}
use Rattle.lk_tree.specs.declared.expression.Expr.{Expr}
use Rattle.lk_tree.specs.declared.expression.ExprForm.{out-ExprForm}
use Rattle.lk_tree.specs.declared.expression.Item.{Item, out-Item}
use Rattle.lk_tree.specs.declared.expression.Member.{Member}
use Rattle.lk_tree.specs.declared.expression.MemberDeclarator.{MemberDeclarator, out-MemberDeclarator}
use Rattle.lk_tree.specs.declared.expression.Parameter.{Parameter, out-Parameter}
use Rattle.lk_tree.specs.declared.expression.Specifier.{Specifier, out-Specifier}
use Rattle.lk_tree.specs.declared.expression.TypeName.{out-TypeName}
use Rattle.lk_tree.specs.declared.statement.BlockItem.TheOpen.{BlockItem-F, StmtForm-F}
use Rattle.lk_tree.specs.declared.statement.BlockItem.{BlockItem, out-BlockItem}
use Rattle.lk_tree.specs.declared.statement.Decl.{Decl}
use Rattle.lk_tree.specs.declared.statement.Decl.TheVariants as decl
use Rattle.lk_tree.specs.declared.statement.ForFirst.{ForFirst}
use Rattle.lk_tree.specs.declared.statement.ForFirst.TheVariants as first
use Rattle.lk_tree.specs.declared.statement.Stmt.{Stmt}
use Rattle.lk_tree.specs.declared.statement.StmtForm.{StmtForm, out-StmtForm}
use Rattle.lk_typed.specs.Env.{Env, Field, extend}
use Rattle.lk_typed.specs.ExprRules as rules
use Rattle.lk_typed.specs.Expressions.{at_pair, expression, specifiers_found}
use Rattle.lk_typed.specs.Forms as forms
use Rattle.lk_typed.specs.Forms.{in_place}
use Rattle.lk_typed.specs.InitialiserRules.{Object}
use Rattle.lk_typed.specs.Initialisers.{designator_adds, designator_part, designator_parts}
use Rattle.lk_typed.specs.NodeParts.{externals_in_turn, member_part, members_in_turn, parts, type_part_if_there}
use Rattle.lk_typed.specs.Nodes.{Node, AnExternal, ADeclaration, ADefinition, AMember, AnItem, AParameter, ATypeName, ADeclarator, AnInitialiser, AStatement, AnExpression, IsParameter, Left, NameUse, Unnamed, Placed}
use Rattle.lk_typed.specs.Parts.{declarator_parts, first_part, inner_part, item_part, items_in_turn, items_parts, members_parts, parameters_in_turn, perhaps, specifier_parts, specifiers_parts, statement_parts}
use Rattle.lk_typed.specs.StatementRules.{Around}
use Rattle.lk_typed.specs.Stands.{IsIn}
use Rattle.lk_typed.specs.Told.{SpecifierTold}
use Rattle.lk_typed.specs.Ty.{Ty}
use Rattle.lk_rules.specs.LayerLaws.{DeclaratorTree, MemberDeclaratorTree, SpecifierTree}
use Rattle.lk_rules.specs.Laws.{name_found}
use Rattle.lk_rules.proofs.Found.{Layer}

-- the type of an object, if there is one
abbrev pub object_type : Option Object → Option Ty
object_type None = None
object_type (Some object) = Some object.type

-- the type of the object that a node initialises, if it is an initialiser
abbrev pub given_type : Node → Option Ty
given_type (AnExternal d) = None
given_type (ADeclaration scope node) = None
given_type (ADefinition node) = None
given_type (AMember before m) = None
given_type (AnItem before i) = None
given_type (AParameter lone p) = None
given_type (ATypeName n) = None
given_type (ADeclarator left d) = None
given_type (AnInitialiser object init) = object_type object
given_type (AStatement around s) = None
given_type (AnExpression e) = None

-- ---- lists of parts

-- none of these has an object
abbrev pub WithoutObject : List Placed → Type 0
WithoutObject [] = ⊤
WithoutObject (p ∷ ps) = (given_type p.node ≡ None) × WithoutObject ps

pub without_object : (ps : List Placed) (p : Placed) → WithoutObject ps → IsIn p ps → given_type p.node ≡ None
without_object [] p all is = absurd is
without_object (q ∷ qs) p all (inl same) = subst (λ (p : Placed). given_type p.node ≡ None) (sym same) all.0
without_object (q ∷ qs) p all (inr is) = without_object qs p all.1 is

-- parts, then others
without_both : (ps qs : List Placed) → WithoutObject ps → WithoutObject qs → WithoutObject (ps ++ qs)
without_both [] qs one other = other
without_both (p ∷ ps) qs one other = (one.0, without_both ps qs one.1 other)

-- one of parts, then others, is one of either
pub in_both : {A : Type 0} (ps qs : List A) (p : A) → IsIn p (ps ++ qs) → IsIn p ps ⊎ IsIn p qs
in_both [] qs p is = inr is
in_both (q ∷ ps) qs p (inl same) = inl (inl same)
in_both (q ∷ ps) qs p (inr is) = by_place (in_both ps qs p is)
  where
    by_place : IsIn p ps ⊎ IsIn p qs → IsIn p (q ∷ ps) ⊎ IsIn p qs
    by_place (inl is) = inl (inr is)
    by_place (inr is) = inr is

-- one of others is one of parts, then others
pub is_behind : {A : Type 0} (ps qs : List A) (p : A) → IsIn p qs → IsIn p (ps ++ qs)
is_behind [] qs p is = is
is_behind (q ∷ ps) qs p is = inr (is_behind ps qs p is)

-- a part that may be missing
perhaps_without : {A : Type 0} (env : Env) (node : A → Node) → ((a : A) → given_type (node a) ≡ None) → (part : Option A) → WithoutObject (perhaps env node part)
perhaps_without env node are None = tt
perhaps_without env node are (Some a) = (are a, tt)

-- an expression that may be missing
value_without : (env : Env) (part : Option Expr) → WithoutObject (perhaps env AnExpression part)
value_without env part = perhaps_without env AnExpression (λ e. refl) part

-- ---- expressions

-- the arguments of a call
arguments_without : (xs : List (forms.Placed Expr)) → WithoutObject (map at_pair (map (in_place AnExpression) xs))
arguments_without [] = tt
arguments_without (x ∷ xs) = (refl, arguments_without xs)

-- the parts of an expression
expr_without : (form : Layer) (env : Env) → WithoutObject (map at_pair (rules.parts AnExpression ATypeName expression name_found env form))
expr_without (ExprForm-F.Comma left right) env = (refl, (refl, tt))
expr_without (ExprForm-F.Assign op left right) env = (refl, (refl, tt))
expr_without (ExprForm-F.Choice condition taken other) env = (refl, (refl, (refl, tt)))
expr_without (ExprForm-F.Binary op left right) env = (refl, (refl, tt))
expr_without (ExprForm-F.Cast name operand) env = (refl, (refl, tt))
expr_without (ExprForm-F.Pre op operand) env = (refl, tt)
expr_without (ExprForm-F.Prefix op operand) env = (refl, tt)
expr_without (ExprForm-F.SizeofExpr operand) env = (refl, tt)
expr_without (ExprForm-F.SizeofType name) env = (refl, tt)
expr_without (ExprForm-F.Index array inner) env = (refl, (refl, tt))
expr_without (ExprForm-F.Call function arguments) env = (refl, arguments_without _)
expr_without (ExprForm-F.Member object name) env = (refl, tt)
expr_without (ExprForm-F.Arrow pointer name) env = (refl, tt)
expr_without (ExprForm-F.Post op operand) env = (refl, tt)
expr_without (ExprForm-F.Word name) env = tt
expr_without (ExprForm-F.Number kind value) env = tt
expr_without (ExprForm-F.Char value) env = tt
expr_without (ExprForm-F.Text bytes) env = tt
expr_without (ExprForm-F.Paren inner) env = (refl, tt)

-- a designator
designator_without : (d : Designator) (env : Env) → WithoutObject (designator_part env d)
designator_without (designator.Member name) env = tt
designator_without (designator.Index e) env = (refl, tt)

-- designators
pub designators_without : (ds : List Designator) (env : Env) → WithoutObject (designator_parts env ds)
designators_without [] env = tt
designators_without (d ∷ ds) env = without_both (designator_part env d) _ (designator_without d env) (designators_without ds (extend env (designator_adds env d)))

-- ---- declarators and specifiers

-- the members of a struct
members_without : (ms : List Member) (env : Env) (before : List Field) → WithoutObject (members_parts env before ms)
members_without [] env before = tt
members_without (m ∷ ms) env before = (refl, members_without ms _ _)

-- the enumerators of an enumeration
items_without : (is : List Item) (env : Env) (before : Option ℤ) → WithoutObject (items_parts env before is)
items_without [] env before = tt
items_without (i ∷ is) env before = (refl, items_without is _ _)

-- the parameters of a list
parameters_without : (ps : List Parameter) (lone : Bool) (env : Env) → WithoutObject (parameters_in_turn lone env ps)
parameters_without [] lone env = tt
parameters_without (p ∷ ps) lone env = (refl, parameters_without ps lone _)

-- a specifier
specifier_without : (form : SpecifierTree) (env : Env) → WithoutObject (specifier_parts env form)
specifier_without (Specifier-F.Storage word) env = tt
specifier_without Specifier-F.Inline env = tt
specifier_without (Specifier-F.Qualifier word) env = tt
specifier_without (Specifier-F.Type word) env = tt
specifier_without (Specifier-F.Struct tag members) env = members_without members _ []
specifier_without (Specifier-F.StructTag tag) env = tt
specifier_without (Specifier-F.Enum tag items) env = items_without items env _
specifier_without (Specifier-F.EnumTag tag) env = tt
specifier_without (Specifier-F.Typedef name) env = tt

-- specifiers
pub specifiers_without : (ss : List Specifier) (alone : Bool) (env : Env) → WithoutObject (specifiers_parts alone env ss)
specifiers_without [] alone env = tt
specifiers_without (s ∷ ss) alone env = without_both (specifier_parts env (out-Specifier s)) _ (specifier_without (out-Specifier s) env) (specifiers_without ss alone _)

-- a declarator inside
inner_without : (env : Env) (left : Left) (inner : Option Declarator) → WithoutObject (inner_part env left inner)
inner_without env left None = tt
inner_without env left (Some inner) = (refl, tt)

-- the parts of a declarator
declarator_without : (form : DeclaratorTree) (env : Env) (left : Left) → WithoutObject (declarator_parts env left form)
declarator_without (DeclaratorForm-F.Star qualifiers inner) env left = inner_without env _ inner
declarator_without (DeclaratorForm-F.Named name) env left = tt
declarator_without (DeclaratorForm-F.Group inner) env left = (refl, tt)
declarator_without (DeclaratorForm-F.ArrayOf inner size) env left = without_both (inner_part env _ inner) _ (inner_without env _ inner) (value_without _ size)
declarator_without (DeclaratorForm-F.FunctionOf inner ps dots) env left = without_both (inner_part env _ inner) _ (inner_without env _ inner) (parameters_without ps _ _)

-- a declarator of a member
member_without : (form : MemberDeclaratorTree) (env : Env) (told : SpecifierTold) (before : List Field) → WithoutObject (member_part env told before form)
member_without (MemberDeclarator-F.Plain inner) env told before = (refl, tt)
member_without (MemberDeclarator-F.Field inner width) env told before = (refl, (refl, tt))
member_without (MemberDeclarator-F.Unnamed width) env told before = (refl, tt)

-- the declarators of a member
fields_without : (ds : List MemberDeclarator) (told : SpecifierTold) (env : Env) (before : List Field) → WithoutObject (members_in_turn told env before ds)
fields_without [] told env before = tt
fields_without (d ∷ ds) told env before =
    without_both (member_part env told before (out-MemberDeclarator d)) _ (member_without (out-MemberDeclarator d) env told before) (fields_without ds told _ _)

-- the declarator of a type name or a parameter
type_without : (env : Env) (told : SpecifierTold) (may_be_absent : Bool) (name : NameUse) (d : Option Declarator) → WithoutObject (type_part_if_there env told may_be_absent name d)
type_without env told may_be_absent name None = tt
type_without env told may_be_absent name (Some d) = (refl, tt)

-- ---- statements

-- an item of a block
item_without : (form : BlockItem-F BlockItem StmtForm Stmt) (around : Around) (env : Env) → given_type (item_part around env form).node ≡ None
item_without (BlockItem-F.Declare node) around env = refl
item_without (BlockItem-F.Stmt inner) around env = refl

-- the items of a block
block_without : (is : List BlockItem) (around : Around) (env : Env) → WithoutObject (items_in_turn around env is)
block_without [] around env = tt
block_without (i ∷ is) around env = (item_without (out-BlockItem i) around env, block_without is _ _)

-- the first part of a for
first_without : (start : ForFirst) (env : Env) → WithoutObject (first_part env start)
first_without (first.Expr e) env = value_without env e
first_without (first.Declare node) env = (refl, tt)

-- the parts of a statement
statement_without : (form : StmtForm-F BlockItem StmtForm Stmt) (around : Around) (env : Env) → WithoutObject (statement_parts around env form)
statement_without (StmtForm-F.Label name inner) around env = (refl, tt)
statement_without (StmtForm-F.Case e inner) around env = (refl, (refl, tt))
statement_without (StmtForm-F.Default inner) around env = (refl, tt)
statement_without (StmtForm-F.Block items) around env = block_without items around _
statement_without (StmtForm-F.Do e) around env = value_without env e
statement_without (StmtForm-F.If e taken other) around env = (refl, (refl, perhaps_without _ _ (λ s. refl) other))
statement_without (StmtForm-F.Switch e inner) around env = (refl, (refl, tt))
statement_without (StmtForm-F.While e inner) around env = (refl, (refl, tt))
statement_without (StmtForm-F.Until inner e) around env = (refl, (refl, tt))
statement_without (StmtForm-F.For start condition step inner) around env =
    without_both _ _ (without_both _ _ (without_both _ _ (first_without start _) (value_without _ condition)) (value_without _ step)) (refl, tt)
statement_without (StmtForm-F.Goto name) around env = tt
statement_without StmtForm-F.Continue around env = tt
statement_without StmtForm-F.Break around env = tt
statement_without (StmtForm-F.Return e) around env = value_without _ e

-- ---- all nodes but declarations and initialisers

-- a node of which no initialiser is a part
abbrev pub IsOther : Node → Type 0
IsOther (AnExternal d) = ⊤
IsOther (ADeclaration scope node) = ⊥
IsOther (ADefinition node) = ⊤
IsOther (AMember before m) = ⊤
IsOther (AnItem before i) = ⊤
IsOther (AParameter lone p) = ⊤
IsOther (ATypeName n) = ⊤
IsOther (ADeclarator left d) = ⊤
IsOther (AnInitialiser object init) = ⊥
IsOther (AStatement around s) = ⊤
IsOther (AnExpression e) = ⊤

-- an external declaration
external_without : (d : Decl) (at_end env : Env) → WithoutObject (parts at_end env (AnExternal d))
external_without (decl.Function node) at_end env = (refl, tt)
external_without (decl.Declare node) at_end env = (refl, tt)
external_without (decl.Empty node) at_end env = tt

-- the parts of such a node
pub others_without : (at_end env : Env) (node : Node) → IsOther node → WithoutObject (parts at_end env node)
others_without at_end env (AnExternal d) other = external_without d at_end env
others_without at_end env (ADeclaration scope node) other = absurd other
others_without at_end env (ADefinition node) other = without_both (specifiers_parts false env node.specifiers) _ (specifiers_without node.specifiers false env) (refl, block_without _ _ _)
others_without at_end env (AMember before m) other =
    without_both (specifiers_parts false env m.specifiers) _ (specifiers_without m.specifiers false env) (fields_without m.declarators (specifiers_found m.specifiers env false) _ before)
others_without at_end env (AnItem before i) other = value_without env (out-Item i).value
others_without at_end env (AParameter lone p) other =
    let node = out-Parameter p in
    without_both (specifiers_parts false env node.specifiers) _ (specifiers_without node.specifiers false env)
    (type_without _ (specifiers_found node.specifiers env false) true IsParameter node.declarator)
others_without at_end env (ATypeName n) other =
    let node = out-TypeName n in
    without_both (specifiers_parts false env node.specifiers) _ (specifiers_without node.specifiers false env)
    (type_without _ (specifiers_found node.specifiers env false) false Unnamed node.declarator)
others_without at_end env (ADeclarator left d) other = declarator_without (out-DeclaratorForm d.form) env left
others_without at_end env (AnInitialiser object init) other = absurd other
others_without at_end env (AStatement around s) other = statement_without (out-StmtForm s.form) around env
others_without at_end env (AnExpression e) other = expr_without (out-ExprForm e.form) env

-- the external declarations of a source
pub externals_without : (ds : List Decl) (env : Env) → WithoutObject (externals_in_turn env ds)
externals_without [] env = tt
externals_without (d ∷ ds) env = (refl, externals_without ds _)
