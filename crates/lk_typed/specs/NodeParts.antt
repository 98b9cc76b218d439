-- The parts of each node of a source, in the order of the text, each in its environment.
use Rattle.std.specs.Prelude.{Bool, true, false, Option, Some, None, List, [], ◌∷◌, ◌++◌}
use Rattle.lk_tree.specs.declared.declaration.Init.{out-Init}
use Rattle.lk_tree.specs.declared.declaration.Declare.{Declare}
use Rattle.lk_tree.specs.declared.declaration.InitDeclarator.{InitDeclarator}
use Rattle.lk_tree.specs.declared.expression.DeclaratorForm.TheOpen.{MemberDeclarator-F}
use Rattle.lk_tree.specs.declared.expression.DeclaratorForm.{DeclaratorForm, out-DeclaratorForm}
use Rattle.lk_tree.specs.declared.expression.Declarator.{Declarator}
use Rattle.lk_tree.specs.declared.expression.Expr.{Expr}
use Rattle.lk_tree.specs.declared.expression.ExprForm.{ExprForm}
use Rattle.lk_tree.specs.declared.expression.Item.{Item, out-Item}
use Rattle.lk_tree.specs.declared.expression.Member.{Member}
use Rattle.lk_tree.specs.declared.expression.MemberDeclarator.{MemberDeclarator, out-MemberDeclarator}
use Rattle.lk_tree.specs.declared.expression.Parameter.{Parameter, out-Parameter}
use Rattle.lk_tree.specs.declared.expression.Specifier.{Specifier}
use Rattle.lk_tree.specs.declared.expression.TypeName.{TypeName, out-TypeName}
use Rattle.lk_tree.specs.declared.statement.BlockItem.TheOpen.{StmtForm-F}
use Rattle.lk_tree.specs.declared.statement.BlockItem.{BlockItem}
use Rattle.lk_tree.specs.declared.statement.Decl.{Decl}
use Rattle.lk_tree.specs.declared.statement.Decl.TheVariants as decl
use Rattle.lk_tree.specs.declared.statement.Function.{Function}
use Rattle.lk_tree.specs.declared.statement.Stmt.{Stmt}
use Rattle.lk_tree.specs.declared.statement.StmtForm.{StmtForm, out-StmtForm}
use Rattle.lk_typed.specs.DeclarationRules.{InDeclaration, InDefinition, InType, Scope, AtFile, Defined, is_static_object, type_in}
use Rattle.lk_typed.specs.Declarations.{completed, declaration_adds, declarator_adds, elements_given, given_by, is_alone, may_lack_size, name_adds, named_additions, type_of_name}
use Rattle.lk_typed.specs.Env.{Env, Additions, Field, nothing, both, past_scope, extend, enter}
use Rattle.lk_typed.specs.InitialiserRules.{Object}
use Rattle.lk_typed.specs.Initialisers.{parts_of_init}
use Rattle.lk_typed.specs.Labels.{labels}
use Rattle.lk_typed.specs.Layers.{type_made}
use Rattle.lk_typed.specs.Nodes.{Node, AnExternal, ADeclaration, ADefinition, AMember, AnItem, AParameter, ATypeName, ADeclarator, AnInitialiser, AStatement, AnExpression, Placed, at, Left, NameUse, Declares, IsMember, IsParameter, Unnamed}
use Rattle.lk_typed.specs.Parts.{declarator_parts, items_add, items_in_turn, perhaps, specifiers_parts, statement_parts}
use Rattle.lk_typed.specs.StatementRules.{in_function}
use Rattle.lk_typed.specs.Told.{SpecifierTold}
use Rattle.lk_typed.specs.Ty.{Ty, Signature, function_of}
use Rattle.lk_typed.specs.Expressions.{declarator_found, expr_parts, member_declarator_found, specifiers_found}

-- ---- declarations

-- the type of a declared name, before its initialiser gives it a size
abbrev pub type_without_size : Scope → SpecifierTold → Env → InitDeclarator → Option Ty
type_without_size scope told env d =
    let inner = declarator_found d.declarator in
    type_of_name (extend env (inner.additions env)) scope told.storages inner.name
    (type_made env (may_lack_size told.storages d.init) (type_in InDeclaration told) inner)

abbrev pub type_declared : Scope → SpecifierTold → Env → InitDeclarator → Option Ty
type_declared scope told env d = completed d.init (type_without_size scope told env d)

abbrev pub object_of : Option Ty → Bool → Option Object
object_of None is_static = None
object_of (Some t) is_static = Some (record { type = t; is_inner = false; is_static = is_static })

abbrev pub initialiser_part : Scope → SpecifierTold → Env → InitDeclarator → List Placed
initialiser_part scope told env d =
    perhaps (extend env (name_adds scope told env d))
    (AnInitialiser (object_of (type_declared scope told env d) (is_static_object scope told.storages)))
    d.init

abbrev pub declared_left : Scope → SpecifierTold → Env → Env → InitDeclarator → Left
declared_left scope told at_end env d =
    record {
      type = type_in InDeclaration told;
      may_be_absent = may_lack_size told.storages d.init;
      behind = extend env ((declarator_found d.declarator).additions env);
      use_of_name =
          Declares scope told.storages (given_by d.init)
          (elements_given d.init (type_without_size scope told env d)) at_end;
      is_whole = true;
    }

abbrev pub declarators_in_turn : Env → Scope → SpecifierTold → Env → List InitDeclarator → List Placed
declarators_in_turn at_end scope told env [] = []
declarators_in_turn at_end scope told env (d ∷ ds) =
    at env (ADeclarator (declared_left scope told at_end env d) d.declarator) ∷
    initialiser_part scope told env d ++
    declarators_in_turn at_end scope told (extend env (declarator_adds scope told env d)) ds

abbrev pub declaration_parts : Env → Scope → Env → Declare → List Placed
declaration_parts at_end scope env node =
    let alone = is_alone node.declarators in
    let told = specifiers_found node.specifiers env alone in
    specifiers_parts alone env node.specifiers ++
    declarators_in_turn at_end scope told (extend env told.additions) node.declarators

-- ---- definitions of functions (C99 6.9.1): the parameters stand in the scope of the body's outermost block

-- the items of a body, which is a block
abbrev pub body_items : StmtForm-F BlockItem StmtForm Stmt → List BlockItem
body_items (StmtForm-F.Label name inner) = []
body_items (StmtForm-F.Case value inner) = []
body_items (StmtForm-F.Default inner) = []
body_items (StmtForm-F.Block items) = items
body_items (StmtForm-F.Do e) = []
body_items (StmtForm-F.If e taken other) = []
body_items (StmtForm-F.Switch e inner) = []
body_items (StmtForm-F.While e inner) = []
body_items (StmtForm-F.Until inner e) = []
body_items (StmtForm-F.For start condition step inner) = []
body_items (StmtForm-F.Goto name) = []
body_items StmtForm-F.Continue = []
body_items StmtForm-F.Break = []
body_items (StmtForm-F.Return e) = []

abbrev pub result_in : Option Signature → Option Ty
result_in None = None
result_in (Some f) = Some f.result

abbrev pub result_of : Option Ty → Option Ty
result_of None = None
result_of (Some t) = result_in (function_of t)

-- the environment behind the declarator of a definition, with its name
abbrev pub behind_declarator : SpecifierTold → Env → Function → Env
behind_declarator told env node =
    let inner = declarator_found node.declarator in
    let after = extend env (inner.additions env) in
    extend after (named_additions after AtFile told.storages Defined None inner.name
    (type_made env false (type_in InDefinition told) inner))

-- the parameters in the scope of the body: their names and tags; the structs among them have their numbers
-- from the declarator, in whose environment they stand
abbrev pub parameters_of_body : Env → Function → Additions
parameters_of_body env node =
    record ((declarator_found node.declarator).parameters (enter env)) { structs = [] }

-- the environment of a body, with its parameters
abbrev pub in_body : SpecifierTold → Env → Function → Env
in_body told env node =
    let inner = declarator_found node.declarator in
    record (extend (enter (behind_declarator told env node)) (parameters_of_body env node))
    { result = result_of (type_made env false (type_in InDefinition told) inner) }

abbrev pub defined_left : SpecifierTold → Env → Env → Function → Left
defined_left told at_end env node =
    record {
      type = type_in InDefinition told;
      may_be_absent = false;
      behind = extend env ((declarator_found node.declarator).additions env);
      use_of_name = Declares AtFile told.storages Defined 0 at_end;
      is_whole = true;
    }

abbrev pub definition_parts : Env → Env → Function → List Placed
definition_parts at_end env node =
    let told = specifiers_found node.specifiers env false in
    let after = extend env told.additions in
    specifiers_parts false env node.specifiers ++
    at after (ADeclarator (defined_left told at_end after node) node.declarator) ∷
    items_in_turn (in_function (labels node.body)) (in_body told after node)
    (body_items (out-StmtForm node.body.form))

-- ---- members, parameters and type names

-- a declarator of a member, a parameter or a type name
abbrev pub type_left : Env → SpecifierTold → Bool → NameUse → Declarator → Left
type_left env told may_be_absent name d =
    record {
      type = type_in InType told;
      may_be_absent = may_be_absent;
      behind = extend env ((declarator_found d).additions env);
      use_of_name = name;
      is_whole = true;
    }

abbrev pub type_part : Env → SpecifierTold → Bool → NameUse → Declarator → Placed
type_part env told may_be_absent name d = at env (ADeclarator (type_left env told may_be_absent name d) d)

abbrev pub type_part_if_there : Env → SpecifierTold → Bool → NameUse → Option Declarator → List Placed
type_part_if_there env told may_be_absent name None = []
type_part_if_there env told may_be_absent name (Some d) = type_part env told may_be_absent name d ∷ []

abbrev pub member_part : Env → SpecifierTold → List Field →
    MemberDeclarator-F DeclaratorForm ExprForm MemberDeclarator Specifier Declarator Expr Item Member
    Parameter TypeName → List Placed
member_part env told before (MemberDeclarator-F.Plain inner) =
    type_part env told false (IsMember before) inner ∷ []
member_part env told before (MemberDeclarator-F.Field inner width) =
    type_part env told false (IsMember before) inner ∷
    at (extend env ((declarator_found inner).additions env)) (AnExpression width) ∷ []
member_part env told before (MemberDeclarator-F.Unnamed width) = at env (AnExpression width) ∷ []

abbrev pub members_in_turn : SpecifierTold → Env → List Field → List MemberDeclarator → List Placed
members_in_turn told env before [] = []
members_in_turn told env before (d ∷ ds) =
    let member = member_declarator_found d env (type_in InType told) before in
    member_part env told before (out-MemberDeclarator d) ++
    members_in_turn told (extend env member.additions) (before ++ member.fields) ds

abbrev pub member_parts : Env → List Field → Member → List Placed
member_parts env before m =
    let told = specifiers_found m.specifiers env false in
    specifiers_parts false env m.specifiers ++
    members_in_turn told (extend env told.additions) before m.declarators

-- a type name, or a parameter
abbrev pub type_parts : Env → Bool → NameUse → List Specifier → Option Declarator → List Placed
type_parts env may_be_absent name ss d =
    let told = specifiers_found ss env false in
    specifiers_parts false env ss ++ type_part_if_there (extend env told.additions) told may_be_absent name d

-- ---- all nodes

abbrev pub external_part : Env → Decl → List Placed
external_part env (decl.Function node) = at env (ADefinition node) ∷ []
external_part env (decl.Declare node) = at env (ADeclaration AtFile node) ∷ []
external_part env (decl.Empty node) = []

-- the parts of a node; `at_end` is the environment behind the whole source
abbrev pub parts : Env → Env → Node → List Placed
parts at_end env (AnExternal d) = external_part env d
parts at_end env (ADeclaration scope node) = declaration_parts at_end scope env node
parts at_end env (ADefinition node) = definition_parts at_end env node
parts at_end env (AMember before m) = member_parts env before m
parts at_end env (AnItem before i) = perhaps env AnExpression (out-Item i).value
parts at_end env (AParameter lone p) =
    type_parts env true IsParameter (out-Parameter p).specifiers (out-Parameter p).declarator
parts at_end env (ATypeName n) =
    type_parts env false Unnamed (out-TypeName n).specifiers (out-TypeName n).declarator
parts at_end env (ADeclarator left d) = declarator_parts env left (out-DeclaratorForm d.form)
parts at_end env (AnInitialiser object init) = parts_of_init object env (out-Init init)
parts at_end env (AStatement around s) = statement_parts around env (out-StmtForm s.form)
parts at_end env (AnExpression e) = expr_parts e env

-- ---- a source

-- what the body leaves behind: the structs, so that no number stands for two
abbrev pub past_body : SpecifierTold → Env → Function → Additions
past_body told env node =
    past_scope (items_add (in_body told env node) (body_items (out-StmtForm node.body.form)))

abbrev pub external_adds : Env → Decl → Additions
external_adds env (decl.Function node) =
    let told = specifiers_found node.specifiers env false in
    let inner = declarator_found node.declarator in
    let after = extend env told.additions in
    let a = inner.additions after in
    both told.additions (both a
    (both (named_additions (extend after a) AtFile told.storages Defined None inner.name
    (type_made after false (type_in InDefinition told) inner)) (past_body told after node)))
external_adds env (decl.Declare node) = declaration_adds AtFile env node
external_adds env (decl.Empty node) = nothing

-- the external declarations of a source, each behind those before it (C99 6.2.1, 4)
abbrev pub externals_in_turn : Env → List Decl → List Placed
externals_in_turn env [] = []
externals_in_turn env (d ∷ ds) =
    at env (AnExternal d) ∷ externals_in_turn (extend env (external_adds env d)) ds

-- the environment behind them
abbrev pub behind_all : Env → List Decl → Env
behind_all env [] = env
behind_all env (d ∷ ds) = behind_all (extend env (external_adds env d)) ds
