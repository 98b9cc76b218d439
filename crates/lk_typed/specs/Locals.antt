-- The locals of a body: its parameters, and its other objects that aren't `static` (C99 6.2.4, 4; 6.9.1, 9),
-- in the order of the text; and which of them are slots.
use Rattle.std.specs.Prelude.{ℕ, ◌≡◌, ◌↔◌, ◌<◌, ◌≤◌, Bool, true, false, Option, Some, None, List, [], ◌∷◌, length, slice_get, take}
use Rattle.lk_tree.specs.declared.expression.Declarator.{Declarator}
use Rattle.lk_tree.specs.declared.expression.DeclaratorForm.{out-DeclaratorForm}
use Rattle.lk_tree.specs.declared.expression.DeclaratorForm.TheOpen.{DeclaratorForm-F, ExprForm-F}
use Rattle.lk_tree.specs.declared.expression.Expr.{Expr}
use Rattle.lk_tree.specs.declared.expression.Parameter.{Parameter, out-Parameter}
use Rattle.lk_tree.specs.declared.operators.PrefixOperator.TheVariants as prefix
use Rattle.lk_tree.specs.declared.specifiers.Qualifier.{Qualifier}
use Rattle.lk_tree.specs.declared.statement.Function.{Function as Definition}
use Rattle.lk_tree.specs.declared.statement.Unit.{Unit}
use Rattle.lk_types.specs.declared.c_type.CType.{CType}
use Rattle.lk_typed.specs.Elaborated.{InPlace, form_of}
use Rattle.lk_typed.specs.Entities.{NameDeclared, DeclaresName, StandsIn}
use Rattle.lk_typed.specs.Env.{Env, Name, Declared, AnObject, enter, extend}
use Rattle.lk_typed.specs.Expressions.{declarator_found, declarator_layer, expression, parameter_found, specifiers_found}
use Rattle.lk_typed.specs.Nodes.{Node, ADefinition, AnExpression}
use Rattle.lk_typed.specs.Operators.{is_scalar}
use Rattle.lk_typed.specs.Told.{Named}
use Rattle.lk_typed.specs.Ty.{Ty, Means}
use Rattle.lk_typed.specs.Units.{IsNode}
use Rattle.lk_typed.specs.declared.unit.Local.{Local}

-- ---- the parameters of the function declarator that stands directly beside the name (C99 6.9.1, 5)

pub data HasParameters : Declarator → List Parameter → Bool → Type 0 where
  beside : {d inner : Declarator} {ps : List Parameter} {dots : Bool} →
      out-DeclaratorForm d.form ≡ DeclaratorForm-F.FunctionOf (Some inner) ps dots →
      (declarator_layer inner).is_name ≡ true → HasParameters d ps dots
  in_function : {d inner : Declarator} {others ps : List Parameter} {other dots : Bool} →
      out-DeclaratorForm d.form ≡ DeclaratorForm-F.FunctionOf (Some inner) others other →
      (declarator_layer inner).is_name ≡ false → HasParameters inner ps dots → HasParameters d ps dots
  in_pointer : {d inner : Declarator} {qualifiers : List Qualifier} {ps : List Parameter} {dots : Bool} →
      out-DeclaratorForm d.form ≡ DeclaratorForm-F.Star qualifiers (Some inner) →
      HasParameters inner ps dots → HasParameters d ps dots
  in_group : {d inner : Declarator} {ps : List Parameter} {dots : Bool} →
      out-DeclaratorForm d.form ≡ DeclaratorForm-F.Group inner → HasParameters inner ps dots →
      HasParameters d ps dots
  in_array : {d inner : Declarator} {size : Option Expr} {ps : List Parameter} {dots : Bool} →
      out-DeclaratorForm d.form ≡ DeclaratorForm-F.ArrayOf (Some inner) size → HasParameters inner ps dots →
      HasParameters d ps dots

-- the scope of the parameters, behind the specifiers of the definition (C99 6.2.1, 4)
abbrev scope_of_parameters : Env → Definition → Env
scope_of_parameters env definition =
    enter (extend env (specifiers_found definition.specifiers env false).additions)

-- its declared name, if it has one
abbrev named_by : Option Declarator → Option Named
named_by None = None
named_by (Some d) = (declarator_found d).name

abbrev pub parameter_name : Parameter → Option Named
parameter_name p = named_by (out-Parameter p).declarator

module _ (externs : List Name) (unit : Unit) where
  -- `&` takes the address of what is declared at the node with this number, at any place of the text, in
  -- sizeof and round parentheses too (C99 6.5.3.2)
  pub record IsAddressTaken (ordinal : ℕ) : Type 0 where
    pub env : Env
    pub e : Expr
    pub stands : IsNode externs unit env (AnExpression e)
    pub operand : InPlace
    pub is_address : form_of (env, e) ≡ ExprForm-F.Prefix prefix.Address operand
    pub declared : Declared
    pub names : (expression operand.1 operand.0).look.word ≡ Some declared
    pub of : declared.ordinal ≡ ordinal

  -- a local of this type: it is a slot where it is a scalar whose address nothing takes (C99 6.2.5, 21)
  pub record IsLocalOf (types : List CType) (t : Ty) (local : Local) : Type 0 where
    pub type : Means types local.ty t
    pub slot : (local.is_slot ≡ true) ↔ ((is_scalar t ≡ true) × (IsAddressTaken local.ordinal → ⊥))

  -- ---- parameters (C99 6.7.5.3)

  -- where it stands: at its declared name, or where it has none at itself
  pub data StandsAtName (p : Parameter) (local : Local) : Option Named → Type 0 where
    named : {name : Named} → local.name ≡ name.name → local.spot ≡ name.spot → local.ordinal ≡ name.ordinal →
        StandsAtName p local (Some name)
    unnamed : local.name ≡ [] → local.spot ≡ (out-Parameter p).spot →
        local.ordinal ≡ (out-Parameter p).ordinal → StandsAtName p local None

  -- parameters in their order, each behind those before it (C99 6.2.1, 4); the type
  -- is adjusted (6.7.5.3, 7 and 8)
  pub data EachParameter (types : List CType) : Env → List Parameter → List Local → Type 0 where
    no_more : {env : Env} → EachParameter types env [] []
    next : {env : Env} {p : Parameter} {ps : List Parameter} {t : Ty} {local : Local} {locals : List Local} →
        (parameter_found p env).type ≡ Some t → IsLocalOf types t local →
        StandsAtName p local (parameter_name p) →
        EachParameter types (extend env (parameter_found p env).additions) ps locals →
        EachParameter types env (p ∷ ps) (local ∷ locals)

  -- `(void)` is no parameter (C99 6.7.5.3, 10)
  pub data AreParameters (types : List CType) (env : Env) : List Parameter → List Local → Type 0 where
    void_alone : {p : Parameter} → (parameter_found p env).is_bare_void ≡ true →
        AreParameters types env (p ∷ []) []
    lone : {p : Parameter} {locals : List Local} → (parameter_found p env).is_bare_void ≡ false →
        EachParameter types env (p ∷ []) locals → AreParameters types env (p ∷ []) locals
    none : AreParameters types env [] []
    several : {p q : Parameter} {ps : List Parameter} {locals : List Local} →
        EachParameter types env (p ∷ q ∷ ps) locals → AreParameters types env (p ∷ q ∷ ps) locals

  -- ---- the locals of the body of a definition

  -- a name of the body that stands for an object of automatic storage (C99 6.2.4, 4)
  pub record IsLocalName (env : Env) (definition : Definition) (n : NameDeclared) (t : Ty) : Type 0 where
    pub env' : Env
    pub node : Node
    pub stands : StandsIn externs unit env (ADefinition definition) env' node
    pub declares : DeclaresName env' node n
    pub is_object : n.is.meaning ≡ AnObject t false

  pub record IsLocalNamed (types : List CType) (n : NameDeclared) (t : Ty) (local : Local) : Type 0 where
    pub name : local.name ≡ n.is.name
    pub spot : local.spot ≡ n.spot
    pub ordinal : local.ordinal ≡ n.is.ordinal
    pub of : IsLocalOf types t local

  -- the first `count` locals are the parameters; each name of another object has a local, each other local a
  -- name, and their numbers rise with those of their nodes
  pub record AreLocals (types : List CType) (env : Env) (definition : Definition) (count : ℕ)
      (locals : List Local) : Type 0 where
    pub parameters : List Parameter
    pub dots : Bool
    pub listed : HasParameters definition.declarator parameters dots
    pub few : count ≤ length locals
    pub are_parameters : AreParameters types (scope_of_parameters env definition) parameters
        (take count locals)
    pub all : (n : NameDeclared) (t : Ty) → IsLocalName env definition n t →
        (l : ℕ) × (local : Local) × (count ≤ l) × (slice_get locals l ≡ Some local)
        × IsLocalNamed types n t local
    pub none_else : (l : ℕ) (local : Local) → count ≤ l → slice_get locals l ≡ Some local →
        (n : NameDeclared) × (t : Ty) × IsLocalName env definition n t × IsLocalNamed types n t local
    pub rise : (l m : ℕ) (a b : Local) → count ≤ l → l < m → slice_get locals l ≡ Some a →
        slice_get locals m ≡ Some b → a.ordinal < b.ordinal
