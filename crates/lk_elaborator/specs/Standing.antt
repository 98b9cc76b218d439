-- What stands in an expression for an operand, and what an expression is of what stands for
-- its operands (C99 6.3, 6.5).
use Rattle.std.specs.Prelude.{ℕ, ◌≡◌, ⊤, Bool, Option, Some, None}
use Rattle.lk_tree.specs.declared.expression.Expr.{Expr}
use Rattle.lk_types.specs.Table.{Table}
use Rattle.lk_typed.specs.Elaborated.{InPlace, IsTyped, Makes, typing_at}
use Rattle.lk_typed.specs.Env as env
use Rattle.lk_typed.specs.Meaning.{meaning_of, IsKnownType}
use Rattle.lk_typed.specs.Operands.{node_type}
use Rattle.lk_typed.specs.Tables.{Tables}
use Rattle.lk_typed.specs.Typing.{Typing}
use Rattle.lk_typed.specs.declared.expression.Callee.{Callee}
use Rattle.lk_typed.specs.declared.expression.Callee.TheOpen.{TypedForm-F}
use Rattle.lk_typed.specs.declared.expression.TypedExpr.{TypedExpr}
use Rattle.lk_typed.specs.declared.expression.TypedForm.{TypedForm, out-TypedForm}
use Rattle.lk_typed.specs.declared.library.LibraryCall.{LibraryCall}
use Rattle.lk_typed.specs.declared.role.Role.{Role}
use Rattle.lk_typed.specs.declared.role.Role.TheVariants as role
use Rattle.lk_elaborator.specs.declared.forms.One.{One}
use Rattle.lk_elaborator.specs.declared.forms.One.TheVariants as one
use Rattle.lk_elaborator.specs.declared.forms.OneForm.{OneForm}
use Rattle.lk_elaborator.specs.declared.forms.OneForm.TheVariants as of_one
use Rattle.lk_elaborator.specs.declared.forms.Three.{Three}
use Rattle.lk_elaborator.specs.declared.forms.Two.{Two}
use Rattle.lk_elaborator.specs.declared.forms.TwoForm.{TwoForm}
use Rattle.lk_elaborator.specs.declared.forms.TwoForm.TheVariants as of_two
use Rattle.lk_elaborator.specs.declared.parts.Part.{Part}
use Rattle.lk_elaborator.specs.declared.parts.Part.TheVariants as part
use Rattle.lk_elaborator.specs.declared.values.Conversion.{Conversion}
use Rattle.lk_elaborator.specs.declared.values.Conversion.TheVariants as conversion
use Rattle.lk_elaborator.specs.declared.values.Making.{Making}
use Rattle.lk_elaborator.specs.declared.values.Valued.{Valued}
use Rattle.lk_elaborator.specs.declared.values.Valued.TheVariants as valued

abbrev pub OpenForm : Type 0
OpenForm = TypedForm-F Callee TypedForm LibraryCall TypedExpr

-- ---- nodes made of a node

-- a node in the place of another one, of the type with this number
pub record IsNodeFor (a : TypedExpr) (ty : ℕ) (form : OpenForm) (t : TypedExpr) : Type 0 where
  pub spot : t.spot ≡ a.spot
  pub ordinal : t.ordinal ≡ a.ordinal
  pub type : t.ty ≡ ty
  pub made : out-TypedForm t.form ≡ form

abbrev pub IsValuedBy : Valued → TypedExpr → TypedExpr → Type 0
IsValuedBy (valued.FirstElement ty) a t = IsNodeFor a ty (TypedForm-F.Decay a) t
IsValuedBy valued.Read a t = IsNodeFor a a.ty (TypedForm-F.Load a) t
IsValuedBy valued.Itself a t = t ≡ a

abbrev pub IsConvertedBy : Option ℕ → TypedExpr → TypedExpr → Type 0
IsConvertedBy None v t = t ≡ v
IsConvertedBy (Some ty) v t = IsNodeFor v ty (TypedForm-F.Convert v) t

pub record IsMadeBy (making : Making) (a t : TypedExpr) : Type 0 where
  pub value : TypedExpr
  pub valued : IsValuedBy making.valued a value
  pub converted : IsConvertedBy making.converted_to value t

-- ---- what stands for an operand

-- a node in the place of an expression
pub record IsNodeAt (p : InPlace) (ty : ℕ) (form : OpenForm) (t : TypedExpr) : Type 0 where
  pub spot : t.spot ≡ p.1.spot
  pub ordinal : t.ordinal ≡ p.1.ordinal
  pub type : t.ty ≡ ty
  pub made : out-TypedForm t.form ≡ form

-- the same, wherever the expression stands
pub record IsNodeOf (e : Expr) (ty : ℕ) (form : OpenForm) (t : TypedExpr) : Type 0 where
  pub spot : t.spot ≡ e.spot
  pub ordinal : t.ordinal ≡ e.ordinal
  pub type : t.ty ≡ ty
  pub made : out-TypedForm t.form ≡ form

module _ (tables : Tables) (folded : Bool) (p : InPlace) where
  -- made of the node of the expression itself
  pub record IsOfItself (making : Making) (t : TypedExpr) : Type 0 where
    pub itself : TypedExpr
    pub typed : IsTyped tables folded p itself
    pub made : IsMadeBy making itself t

  abbrev pub IsConversion : Conversion → TypedExpr → Type 0
  IsConversion (conversion.Null ty) t = IsNodeAt p ty TypedForm-F.Null t
  IsConversion (conversion.Made making) t = IsOfItself making t

  abbrev pub IsPart : Part → TypedExpr → Type 0
  IsPart (part.Operand stands making) t = IsOfItself making t
  IsPart (part.Null ty) t = IsNodeAt p ty TypedForm-F.Null t
  IsPart (part.Number z ty) t = IsNodeAt p ty (TypedForm-F.Number z) t

-- what the code has it stand as is what it stands as, as far as the rules convert it to a type
abbrev pub StandsAs : Table → Role → env.Role → Type 0
StandsAs table role.Operand r = ⊤
StandsAs table (role.ConvertedTo t) r = IsKnownType table t × (r ≡ env.ConvertedTo (meaning_of table t))
StandsAs table role.Function r = ⊤
StandsAs table role.Routine r = ⊤

abbrev pub PartStandsAs : Table → Part → env.Role → Type 0
PartStandsAs table (part.Operand stands making) r = StandsAs table stands r
PartStandsAs table (part.Null ty) r = ⊤
PartStandsAs table (part.Number z ty) r = ⊤

-- ---- what an expression is of what stands for its operands

-- a node of this form with the type that the rules find
abbrev pub MakesOwn : Tables → InPlace → OpenForm → TypedExpr → Type 0
MakesOwn tables p form t =
    (typing : Typing) × (typing_at p ≡ Some typing) × Makes tables p (node_type typing.type) form t

-- such a node is the expression itself
abbrev pub IsFormOf : Tables → Bool → InPlace → OpenForm → Type 0
IsFormOf tables folded p form = (t : TypedExpr) → MakesOwn tables p form t → IsTyped tables folded p t

abbrev pub form_of_one : OneForm → TypedExpr → OpenForm
form_of_one of_one.Paren a = TypedForm-F.Paren a
form_of_one (of_one.Member k) a = TypedForm-F.Member a k
form_of_one (of_one.Arrow k) a = TypedForm-F.Arrow a k
form_of_one of_one.Address a = TypedForm-F.Address a
form_of_one of_one.Indirection a = TypedForm-F.Indirection a
form_of_one (of_one.Unary o) a = TypedForm-F.Unary o a
form_of_one (of_one.Step o change at) a = TypedForm-F.Step o change a at
form_of_one of_one.Discard a = TypedForm-F.Discard a
form_of_one of_one.Convert a = TypedForm-F.Convert a

abbrev pub form_of_two : TwoForm → TypedExpr → TypedExpr → OpenForm
form_of_two of_two.Index a b = TypedForm-F.Index a b
form_of_two (of_two.Binary o) a b = TypedForm-F.Binary o a b
form_of_two of_two.And a b = TypedForm-F.And a b
form_of_two of_two.Or a b = TypedForm-F.Or a b
form_of_two of_two.Comma a b = TypedForm-F.Comma a b
form_of_two of_two.Assign a b = TypedForm-F.Assign a b
form_of_two (of_two.Compound o at) a b = TypedForm-F.Compound o a b at

module _ (table : Table) (tables : Tables) (folded : Bool) (p : InPlace) where
  pub record IsOneOf (i : InPlace) (form : OneForm) (a : Part) : Type 0 where
    pub role : PartStandsAs table a i.0.role
    pub gives : (x : TypedExpr) → IsPart tables folded i a x → IsFormOf tables folded p (form_of_one form x)

  abbrev pub IsOne : InPlace → One → Type 0
  IsOne i one.Null = IsFormOf tables folded p TypedForm-F.Null
  IsOne i (one.Of form a) = IsOneOf i form a

  pub record IsTwo (l r : InPlace) (two : Two) : Type 0 where
    pub left : PartStandsAs table two.left l.0.role
    pub right : PartStandsAs table two.right r.0.role
    pub gives : (x y : TypedExpr) → IsPart tables folded l two.left x → IsPart tables folded r two.right y →
        IsFormOf tables folded p (form_of_two two.form x y)

  pub record IsThree (c l r : InPlace) (three : Three) : Type 0 where
    pub condition : PartStandsAs table three.condition c.0.role
    pub taken : PartStandsAs table three.taken l.0.role
    pub other : PartStandsAs table three.other r.0.role
    pub gives : (x y z : TypedExpr) → IsPart tables folded c three.condition x →
        IsPart tables folded l three.taken y → IsPart tables folded r three.other z →
        IsFormOf tables folded p (TypedForm-F.Choice x y z)
