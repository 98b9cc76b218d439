-- Which nodes' codes depend on whether their parts have types, and what hides the codes of a declaration.
-- Each law is the contract of a function.
use Rattle.std.specs.Prelude.{◌≡◌, ◌++◌, ◌&&◌, Bool, true, false, Option, Some, None, List, [], ◌∷◌, ℤ, if◌then◌else◌}
use Rattle.lk_tree.specs.declared.declaration.Declare.{Declare}
use Rattle.lk_tree.specs.declared.declaration.InitDeclarator.{InitDeclarator}
use Rattle.lk_tree.specs.declared.expression.DeclaratorForm.TheOpen.{DeclaratorForm-F}
use Rattle.lk_tree.specs.declared.expression.DeclaratorForm.{out-DeclaratorForm}
use Rattle.lk_tree.specs.declared.expression.Declarator.{Declarator}
use Rattle.lk_tree.specs.declared.expression.Expr.{Expr}
use Rattle.lk_tree.specs.declared.expression.Item.{Item, out-Item}
use Rattle.lk_tree.specs.declared.expression.Member.{Member}
use Rattle.lk_tree.specs.declared.expression.Parameter.{Parameter}
use Rattle.lk_tree.specs.declared.expression.Specifier.{Specifier}
use Rattle.lk_tree.specs.declared.expression.TypeName.{TypeName}
use Rattle.lk_tree.specs.declared.statement.Function.{Function}
use Rattle.lk_typed.specs.DeclarationRules.{Scope}
use Rattle.lk_typed.specs.Declarations.{declarator_adds, is_alone}
use Rattle.lk_typed.specs.Env.{Env, Field, extend}
use Rattle.lk_typed.specs.Expressions.{has_expr_type, specifiers_found}
use Rattle.lk_typed.specs.NodeParts.{initialiser_part, members_in_turn}
use Rattle.lk_typed.specs.NodeRules.{are_typed, breaches, hiding, rules_of, those_without_type}
use Rattle.lk_typed.specs.Nodes.{ADeclaration, ADeclarator, ADefinition, AMember, AnItem, AParameter, ATypeName, Left, Placed}
use Rattle.lk_typed.specs.Parts.{inner_adds, specifiers_parts}
use Rattle.lk_typed.specs.Told.{SpecifierTold}
use Rattle.lk_rules.specs.LayerLaws.{DeclaratorTree}

-- ---- parts that have types

abbrev pub TypesOfPartsInTurn : Type 0
TypesOfPartsInTurn = (ps qs : List Placed) → are_typed (ps ++ qs) ≡ (are_typed ps && are_typed qs)

-- members and enumerators count as having one
abbrev pub PartsOfSpecifiersHaveTypes : Type 0
PartsOfSpecifiersHaveTypes = (alone : Bool) (env : Env) (ss : List Specifier) →
    are_typed (specifiers_parts alone env ss) ≡ true

-- ---- nodes whose parts all have types

abbrev pub TypeNamesAreAsked : Type 0
TypeNamesAreAsked = (at_end env : Env) (n : TypeName) →
    breaches at_end env (ATypeName n) ≡ rules_of env (ATypeName n)

abbrev pub ParametersAreAsked : Type 0
ParametersAreAsked = (at_end env : Env) (lone : Bool) (p : Parameter) →
    breaches at_end env (AParameter lone p) ≡ rules_of env (AParameter lone p)

abbrev pub DefinitionsAreAsked : Type 0
DefinitionsAreAsked = (at_end env : Env) (node : Function) →
    breaches at_end env (ADefinition node) ≡ rules_of env (ADefinition node)

-- ---- nodes with an expression in them, whose type is asked

abbrev pub has_type_if_there : Env → Option Expr → Bool
has_type_if_there env None = true
has_type_if_there env (Some e) = has_expr_type e env

-- the size of an array
abbrev pub is_size_typed : Env → DeclaratorTree → Bool
is_size_typed env (DeclaratorForm-F.Star qualifiers inner) = true
is_size_typed env (DeclaratorForm-F.Named name) = true
is_size_typed env (DeclaratorForm-F.Group inner) = true
is_size_typed env (DeclaratorForm-F.ArrayOf inner size) =
    has_type_if_there (extend env (inner_adds inner env)) size
is_size_typed env (DeclaratorForm-F.FunctionOf inner ps dots) = true

abbrev pub DeclaratorsAreAsked : Type 0
DeclaratorsAreAsked =
    (at_end env : Env) (left : Left) (d : Declarator) →
    breaches at_end env (ADeclarator left d)
    ≡ (if is_size_typed env (out-DeclaratorForm d.form) then rules_of env (ADeclarator left d) else [])

-- the value of an enumerator
abbrev pub ItemsAreAsked : Type 0
ItemsAreAsked =
    (at_end env : Env) (before : Option ℤ) (i : Item) →
    breaches at_end env (AnItem before i)
    ≡ (if has_type_if_there env (out-Item i).value then rules_of env (AnItem before i) else [])

-- the widths of a member
abbrev pub MembersAreAsked : Type 0
MembersAreAsked =
    (at_end env : Env) (before : List Field) (m : Member) →
    let told = specifiers_found m.specifiers env false in
    breaches at_end env (AMember before m)
    ≡ (if are_typed (members_in_turn told (extend env told.additions) before m.declarators) then rules_of
    env (AMember before m) else [])

-- ---- what hides the codes of a declaration

-- the initialisers of a declaration, each behind its declarator
abbrev pub initialisers_in_turn : Scope → SpecifierTold → Env → List InitDeclarator → List Placed
initialisers_in_turn scope told env [] = []
initialisers_in_turn scope told env (d ∷ ds) =
    initialiser_part scope told env d ++
    initialisers_in_turn scope told (extend env (declarator_adds scope told env d)) ds

-- parts without types that hide in one list hide in both
abbrev pub HidingPartsInTurn : Type 0
HidingPartsInTurn =
    (ps qs : List Placed) → those_without_type (ps ++ qs) ≡ those_without_type ps ++ those_without_type qs

-- a fault in an initialiser without a type, and none elsewhere
abbrev pub OnlyInitialisersHide : Type 0
OnlyInitialisersHide =
    (at_end env : Env) (scope : Scope) (node : Declare) →
    let told = specifiers_found node.specifiers env (is_alone node.declarators) in
    hiding at_end env (ADeclaration scope node)
    ≡ those_without_type (initialisers_in_turn scope told (extend env told.additions) node.declarators)
