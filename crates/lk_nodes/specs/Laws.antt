-- The nodes of a numbered source are told apart by their numbers, and what is known in the environment of a
-- node stays known. Each law is the contract of a function.
use Rattle.std.specs.Prelude.{◌≡◌, ◌≤◌, ◌<◌, ℕ, false, List, Option, Some}
use Rattle.lk_tree.specs.Numbers.{count, numbered}
use Rattle.lk_tree.specs.declared.declaration.Declare.{Declare}
use Rattle.lk_tree.specs.declared.declaration.Init.TheOpen.{Init-F}
use Rattle.lk_tree.specs.declared.declaration.Init.{Init, out-Init}
use Rattle.lk_tree.specs.declared.declaration.InitDeclarator.{InitDeclarator}
use Rattle.lk_tree.specs.declared.declaration.InitList.{InitList, out-InitList}
use Rattle.lk_tree.specs.declared.expression.Declarator.{Declarator}
use Rattle.lk_tree.specs.declared.expression.Expr.{Expr}
use Rattle.lk_tree.specs.declared.expression.TypeName.{TypeName, out-TypeName}
use Rattle.lk_tree.specs.declared.statement.Function.{Function as Definition}
use Rattle.lk_tree.specs.declared.statement.Stmt.{Stmt}
use Rattle.lk_tree.specs.declared.statement.Unit.{Unit}
use Rattle.lk_typed.specs.DeclarationRules.{Scope}
use Rattle.lk_typed.specs.Entities.{DeclaresName, IsDeclaratorOf, NameDeclared, StandsIn, defined_type, specifiers_of}
use Rattle.lk_typed.specs.Env.{Env, Field, Known, Name, extend, members_of}
use Rattle.lk_typed.specs.Expressions.{declarator_found, expression}
use Rattle.lk_typed.specs.Faults.{Fault}
use Rattle.lk_typed.specs.InitialiserRules.{Object}
use Rattle.lk_typed.specs.NodeParts.{parts, type_declared}
use Rattle.lk_typed.specs.Nodes.{Node, ADeclaration, ADeclarator, ADefinition, AnExpression, AnInitialiser, AStatement, ATypeName, Left, Placed}
use Rattle.lk_typed.specs.Stands.{IsIn}
use Rattle.lk_typed.specs.StatementRules.{Around}
use Rattle.lk_typed.specs.Told.{Named}
use Rattle.lk_typed.specs.Units.{IsFaultOf, IsNode, around, at_end, externals}
use Rattle.lk_nodes.specs.Kinds.{is_numbered_by_its_part, kind_of, number_of}
use Rattle.lk_nodes.specs.Settled.{AreSettled}

-- this holds of each numbered source, whatever names --externs lists
abbrev pub OfNumbered : (List Name → Unit → Type 0) → Type 0
OfNumbered P = (externs : List Name) (before unit : Unit) → unit ≡ numbered before → P externs unit

-- a part of a node
abbrev pub IsPart : List Name → Unit → Env → Node → Placed → Type 0
IsPart externs unit env node part = IsIn part (parts (at_end externs unit) env node)

-- a node stands in a part or is one
abbrev pub StandsInPart : List Name → Unit → Placed → Env → Node → Type 0
StandsInPart externs unit part env node = StandsIn externs unit part.env part.node env node

-- ---- two nodes

-- two nodes of one kind with one number are one, in one environment
abbrev pub NodesAreToldApart : Type 0
NodesAreToldApart = OfNumbered (λ externs unit.
    (env env' : Env) (node node' : Node) → IsNode externs unit env node → IsNode externs unit env' node' →
    kind_of node ≡ kind_of node' → number_of node ≡ number_of node' →
    (env ≡ env') × (node ≡ node'))

-- two expressions
abbrev pub ExpressionsAreToldApart : Type 0
ExpressionsAreToldApart = OfNumbered (λ externs unit.
    (env env' : Env) (e e' : Expr) → IsNode externs unit env (AnExpression e) →
    IsNode externs unit env' (AnExpression e') → e.ordinal ≡ e'.ordinal → (env ≡ env') × (e ≡ e'))

-- two type names
abbrev pub TypeNamesAreToldApart : Type 0
TypeNamesAreToldApart = OfNumbered (λ externs unit.
    (env env' : Env) (n n' : TypeName) → IsNode externs unit env (ATypeName n) →
    IsNode externs unit env' (ATypeName n') → (out-TypeName n).ordinal ≡ (out-TypeName n').ordinal →
    (env ≡ env') × (n ≡ n'))

-- two declarators
abbrev pub DeclaratorsAreToldApart : Type 0
DeclaratorsAreToldApart = OfNumbered (λ externs unit.
    (env env' : Env) (left left' : Left) (d d' : Declarator) → IsNode externs unit env (ADeclarator left d) →
    IsNode externs unit env' (ADeclarator left' d') → d.ordinal ≡ d'.ordinal →
    (env ≡ env') × (left ≡ left') × (d ≡ d'))

-- two statements
abbrev pub StatementsAreToldApart : Type 0
StatementsAreToldApart = OfNumbered (λ externs unit.
    (env env' : Env) (around around' : Around) (s s' : Stmt) → IsNode externs unit env (AStatement around s) →
    IsNode externs unit env' (AStatement around' s') → s.ordinal ≡ s'.ordinal →
    (env ≡ env') × (around ≡ around') × (s ≡ s'))

-- two initialisers, by the number of the expression or of the list that each is
abbrev pub InitialisersAreToldApart : Type 0
InitialisersAreToldApart = OfNumbered (λ externs unit.
    (env env' : Env) (object object' : Option Object) (init init' : Init) →
    IsNode externs unit env (AnInitialiser object init) →
    IsNode externs unit env' (AnInitialiser object' init') →
    number_of (AnInitialiser object init) ≡ number_of (AnInitialiser object' init') →
    (env ≡ env') × (object ≡ object') × (init ≡ init'))

-- two initialisers that are expressions
abbrev pub ValuesAreToldApart : Type 0
ValuesAreToldApart = OfNumbered (λ externs unit.
    (env env' : Env) (object object' : Option Object) (init init' : Init) (e e' : Expr) →
    IsNode externs unit env (AnInitialiser object init) →
    IsNode externs unit env' (AnInitialiser object' init') →
    out-Init init ≡ Init-F.Expr e → out-Init init' ≡ Init-F.Expr e' → e.ordinal ≡ e'.ordinal →
    (env ≡ env') × (object ≡ object') × (e ≡ e'))

-- two initialisers in braces
abbrev pub ListsAreToldApart : Type 0
ListsAreToldApart = OfNumbered (λ externs unit.
    (env env' : Env) (object object' : Option Object) (init init' : Init) (list list' : InitList) →
    IsNode externs unit env (AnInitialiser object init) →
    IsNode externs unit env' (AnInitialiser object' init') → out-Init init ≡ Init-F.List list →
    out-Init init' ≡ Init-F.List list' → (out-InitList list).ordinal ≡ (out-InitList list').ordinal →
    (env ≡ env') × (object ≡ object') × (list ≡ list'))

-- ---- names

-- a name that a node declares has the number and the place of a declarator in it
abbrev pub NamesAreThoseOfDeclarators : Type 0
NamesAreThoseOfDeclarators =
    (externs : List Name) (unit : Unit) (env : Env) (node : Node) (n : NameDeclared) →
    DeclaresName env node n →
    (env' : Env) × (left : Left) × (d : Declarator) × StandsIn externs unit env node env' (ADeclarator left d)
    × (d.ordinal ≡ n.is.ordinal) × (d.spot ≡ n.spot)

-- two names with one number are declared by one node, and are one
abbrev pub NamesAreToldApart : Type 0
NamesAreToldApart = OfNumbered (λ externs unit.
    (env env' : Env) (node node' : Node) (n n' : NameDeclared) → IsNode externs unit env node →
    DeclaresName env node n → IsNode externs unit env' node' → DeclaresName env' node' n' →
    n.is.ordinal ≡ n'.is.ordinal → (env ≡ env') × (node ≡ node') × (n ≡ n'))

-- a declarator of a declaration with the number of a declared name declares it: it
-- has a type, that of the name
abbrev pub DeclaredNamesHaveTypes : Type 0
DeclaredNamesHaveTypes = OfNumbered (λ externs unit.
    (scope : Scope) (env : Env) (node : Declare) (here : Env) (d : InitDeclarator) (named : Named)
    (env' : Env) (node' : Node) (n : NameDeclared) → IsNode externs unit env (ADeclaration scope node) →
    IsDeclaratorOf scope env node here d → (declarator_found d.declarator).name ≡ Some named →
    IsNode externs unit env' node' → DeclaresName env' node' n → named.ordinal ≡ n.is.ordinal →
    type_declared scope (specifiers_of env node) here d ≡ Some n.type)

-- so it is with a definition
abbrev pub DefinedNamesHaveTypes : Type 0
DefinedNamesHaveTypes = OfNumbered (λ externs unit.
    (env : Env) (node : Definition) (named : Named) (env' : Env) (node' : Node) (n : NameDeclared) →
    IsNode externs unit env (ADefinition node) → (declarator_found node.declarator).name ≡ Some named →
    IsNode externs unit env' node' → DeclaresName env' node' n → named.ordinal ≡ n.is.ordinal →
    defined_type env node ≡ Some n.type)

-- ---- parts

-- two nodes of one kind with one number are parts of one node
abbrev pub PartsAreOfOneNode : Type 0
PartsAreOfOneNode = OfNumbered (λ externs unit.
    (env env' : Env) (node node' : Node) (part part' : Placed) → IsNode externs unit env node →
    IsPart externs unit env node part → IsNode externs unit env' node' →
    IsPart externs unit env' node' part' →
    kind_of part.node ≡ kind_of part'.node → number_of part.node ≡ number_of part'.node →
    (env ≡ env') × (node ≡ node'))

-- two parts of a node in which nodes with one number stand are one
abbrev pub PartsAreToldApart : Type 0
PartsAreToldApart = OfNumbered (λ externs unit.
    (env e e' : Env) (node n n' : Node) (part part' : Placed) → IsNode externs unit env node →
    IsPart externs unit env node part → StandsInPart externs unit part e n →
    IsPart externs unit env node part' → StandsInPart externs unit part' e' n' →
    number_of n ≡ number_of n' → part ≡ part')

-- two external declarations in which nodes with one number stand are one
abbrev pub ExternalsAreToldApart : Type 0
ExternalsAreToldApart = OfNumbered (λ externs unit.
    (env env' : Env) (node node' : Node) (one other : Placed) → IsIn one (externals externs unit) →
    StandsInPart externs unit one env node → IsIn other (externals externs unit) →
    StandsInPart externs unit other env' node' → number_of node ≡ number_of node' → one ≡ other)

-- ---- numbers rise from a node to what stands in it

-- what stands in a node has its number or a greater one
abbrev pub NumbersRiseInside : Type 0
NumbersRiseInside = OfNumbered (λ externs unit.
    (env env' : Env) (node node' : Node) → IsNode externs unit env node →
    StandsIn externs unit env node env' node' → number_of node ≤ number_of node')

-- what stands in its parts has greater ones, unless the node has the number of its part
abbrev pub PartsHaveGreaterNumbers : Type 0
PartsHaveGreaterNumbers = OfNumbered (λ externs unit.
    (env env' : Env) (node node' : Node) (part : Placed) → IsNode externs unit env node →
    IsPart externs unit env node part → StandsInPart externs unit part env' node' →
    is_numbered_by_its_part node ≡ false → number_of node < number_of node')

-- each number is less than the count of the nodes
abbrev pub NumbersAreBounded : Type 0
NumbersAreBounded = (externs : List Name) (before unit : Unit) → unit ≡ numbered before →
    (env : Env) (node : Node) → IsNode externs unit env node → number_of node < count before

-- ---- environments

-- each node is given the names from outside that the source is given
abbrev pub OutsideStays : Type 0
OutsideStays = (externs : List Name) (unit : Unit) (env : Env) (node : Node) → IsNode externs unit env node →
    env.outside ≡ (around externs unit).outside

-- what is known of a struct behind an expression of a source is known at its end
abbrev pub KnownStructsStay : Type 0
KnownStructsStay =
    (externs : List Name) (unit : Unit) (env : Env) (e : Expr) (s : ℕ) (fields : List Field) →
    IsNode externs unit env (AnExpression e) →
    members_of (extend env (expression e env).adds).structs s ≡ Known fields →
    members_of (at_end externs unit).structs s ≡ Known fields

-- in and behind an initialiser of a source without fault the structs that its object holds have the members
-- that they have at the end of the source (C99 6.7, 7; 6.7.8, 3)
abbrev pub SourcesAreSettled : Type 0
SourcesAreSettled = (externs : List Name) (unit : Unit) → ((f : Fault) → IsFaultOf externs unit f → ⊥) →
    AreSettled externs unit
