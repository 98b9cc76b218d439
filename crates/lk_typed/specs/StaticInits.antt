-- What an object of static storage begins with (C99 6.6, 7 to 9; 6.7.8, 4 and 10): the scalar parts that its
-- initialiser names, in the order of the entries.
use Rattle.std.specs.Prelude.{ℕ, suc, ◌≡◌, ◌++◌, true, Option, Some, None, List, [], ◌∷◌, ℤ, pos}
use Rattle.lk_arith.specs.Conversions.{convert}
use Rattle.lk_base.specs.declared.cell.CellStep.{CellStep}
use Rattle.lk_base.specs.declared.cell.CellStep.TheVariants.{Index}
use Rattle.lk_base.specs.declared.kind.Kind.{Kind}
use Rattle.lk_base.specs.declared.kind.Kind.TheVariants as kind
use Rattle.lk_base.specs.declared.spot.Spot.{Spot}
use Rattle.lk_typed.specs.Addresses.{value}
use Rattle.lk_typed.specs.Conversions.{converted_address}
use Rattle.lk_typed.specs.Elaborated.{InPlace, IsConverted, typing_at}
use Rattle.lk_typed.specs.Initialised.{AValue, TheBytes, TheWord, PartGiven}
use Rattle.lk_typed.specs.Statics.{reached}
use Rattle.lk_typed.specs.Tables.{Tables, IsEntityAt}
use Rattle.lk_typed.specs.Ty.{Ty, Int, Pointer, Array, Means}
use Rattle.lk_typed.specs.Typing.{Typing, Address, Position, NullAddress, FunctionAddress, Inside, AtObject, AtText, known_value}
use Rattle.lk_typed.specs.declared.expression.TypedExpr.{TypedExpr}
use Rattle.lk_typed.specs.declared.initialiser.StaticPart.{StaticPart}
use Rattle.lk_typed.specs.declared.initialiser.StaticValue.{StaticValue}
use Rattle.lk_typed.specs.declared.initialiser.StaticValue.TheVariants as begins

module _ (tables : Tables) where
  -- ---- what a pointer begins with, by the address that it is

  pub data IsPointerTo : Address → StaticValue → Type 0 where
    null : IsPointerTo NullAddress begins.Null
    function : {ordinal e : ℕ} → IsEntityAt tables ordinal e →
        IsPointerTo (FunctionAddress ordinal) (begins.Function e)
    object : {position : Position} {ordinal e : ℕ} → position.anchor ≡ AtObject ordinal →
        IsEntityAt tables ordinal e →
        IsPointerTo (Inside position) (begins.Address e (reached position).steps (reached position).is_past)
    text : {position : Position} {ordinal : ℕ} → position.anchor ≡ AtText ordinal →
        IsPointerTo (Inside position)
        (begins.Text ordinal (reached position).steps (reached position).is_past)

  -- whether an address, as a _Bool, is 0 or 1 (C99 6.3.1.2)
  pub data IsTruthOf : Address → ℤ → Type 0 where
    of_null : IsTruthOf NullAddress (pos 0)
    of_function : {ordinal : ℕ} → IsTruthOf (FunctionAddress ordinal) (pos 1)
    of_object : {position : Position} → IsTruthOf (Inside position) (pos 1)

  -- ---- the value of a part, converted to its type, with the expression where that is a pointer: each integer constant expression that moves the address is a number in it

  pub data IsStaticValue (p : InPlace) : Ty → StaticValue → Option TypedExpr → Type 0 where
    number : {k : Kind} {typing : Typing} {z : ℤ} → typing_at p ≡ Some typing →
        known_value (value typing).constant ≡ Some z →
        IsStaticValue p (Int k) (begins.Number (convert k z)) None
    truth : {typing : Typing} {z : ℤ} → typing_at p ≡ Some typing →
        IsTruthOf (converted_address (value typing)) z → known_value (value typing).constant ≡ None →
        IsStaticValue p (Int kind.Bool) (begins.Number z) None
    pointer : {target : Ty} {typing : Typing} {is : StaticValue} {e : TypedExpr} → typing_at p ≡ Some typing →
        IsPointerTo (converted_address (value typing)) is → IsConverted tables true p (Pointer target) e →
        IsStaticValue p (Pointer target) is (Some e)

  -- ---- parts

  pub record IsStaticPart (path : List CellStep) (t : Ty) (is : StaticPart) : Type 0 where
    pub path_ : is.path ≡ path
    pub type : Means tables.types is.ty t

  -- the bytes of a literal as elements of a kind, the first of them the element i
  pub data AreByteParts (path : List CellStep) (k : Kind) : ℕ → List ℕ → List StaticPart → Type 0 where
    no_more : {i : ℕ} → AreByteParts path k i [] []
    next : {i byte : ℕ} {bytes : List ℕ} {is : StaticPart} {others : List StaticPart} →
        IsStaticPart (path ++ Index i ∷ []) (Int k) is → is.value ≡ begins.Number (convert k (pos byte)) →
        is.pointer ≡ None → AreByteParts path k (suc i) bytes others →
        AreByteParts path k i (byte ∷ bytes) (is ∷ others)

  pub data AreStaticParts : List PartGiven → List StaticPart → Type 0 where
    no_more : AreStaticParts [] []
    expression : {path : List CellStep} {t : Ty} {p : InPlace} {given : List PartGiven} {is : StaticPart}
        {others : List StaticPart} → IsStaticPart path t is → IsStaticValue p t is.value is.pointer →
        AreStaticParts given others →
        AreStaticParts (record { path = path; type = t; begins = AValue p } ∷ given) (is ∷ others)
    bytes : {path : List CellStep} {k : Kind} {n ordinal : ℕ} {spot : Spot} {bytes : List ℕ}
        {given : List PartGiven} {are others : List StaticPart} → AreByteParts path k 0 bytes are →
        AreStaticParts given others →
        AreStaticParts (record { path = path; type = Array (Int k) n; begins = TheBytes spot ordinal bytes } ∷ given) (are ++ others)
    word : {path : List CellStep} {t : Ty} {given : List PartGiven} {is : StaticPart}
        {others : List StaticPart} → IsStaticPart path t is → is.value ≡ begins.Ready → is.pointer ≡ None →
        AreStaticParts given others →
        AreStaticParts (record { path = path; type = t; begins = TheWord } ∷ given) (is ∷ others)
