-- Forms of a source, made of the program's types.
use Rattle.std.proofs.Common.{◌≡◌, ◌<◌, ◌∷◌, ℕ, All, Bool, List, length, subst, sym}
use Rattle.std.specs.List.{AllZip}
use Rattle.lk_base.specs.declared.kind.Kind.{Kind}
use Rattle.lk_types.specs.Building.{IsMadeOf}
use Rattle.lk_types.specs.Table.{Table}
use Rattle.lk_types.specs.declared.c_type.CType.{CType}
use Rattle.lk_types.specs.declared.c_type.CType.TheVariants.{Void, Int, ThreadId, Mutex, Cond, Pointer, Array, Struct, Function, Opaque}
use Rattle.lk_join.specs.Forms.{HasForm, IsHere}
use Rattle.lk_join.specs.Forms.HasForm.{void, integer, thread, mutex, condition, opaque, pointer, array, struct, function}

module _ (row structs : List ℕ) (form : CType) where
  by_form : {a b : CType} → form ≡ a → HasForm row structs a b → HasForm row structs form b
  by_form {a} {b} is has = subst (λ f. HasForm row structs f b) (sym is) has

  pub has_void : form ≡ Void → HasForm row structs form Void
  has_void is = by_form is void

  pub has_integer : (k : Kind) → form ≡ Int k → HasForm row structs form (Int k)
  has_integer k is = by_form is integer

  pub has_thread : form ≡ ThreadId → HasForm row structs form ThreadId
  has_thread is = by_form is thread

  pub has_mutex : form ≡ Mutex → HasForm row structs form Mutex
  has_mutex is = by_form is mutex

  pub has_condition : form ≡ Cond → HasForm row structs form Cond
  has_condition is = by_form is condition

  pub has_opaque : (n : ℕ) → form ≡ Opaque n → HasForm row structs form (Opaque n)
  has_opaque n is = by_form is opaque

  pub has_pointer : (a b : ℕ) → form ≡ Pointer a → IsHere row a b → HasForm row structs form (Pointer b)
  has_pointer a b is at = by_form is (pointer at)

  pub has_array : (a b n : ℕ) → form ≡ Array a n → IsHere row a b → HasForm row structs form (Array b n)
  has_array a b n is at = by_form is (array at)

  pub has_struct : (a b : ℕ) → form ≡ Struct a → IsHere structs a b → HasForm row structs form (Struct b)
  has_struct a b is at = by_form is (struct at)

  pub has_function : (a b : ℕ) (ps qs given : List ℕ) (dots : Bool) → form ≡ Function a ps dots → given ≡ ps → IsHere row a b → AllZip (IsHere row) given qs → HasForm row structs form (Function b qs dots)
  has_function a b ps qs given dots is same at each = by_form is (function at (subst (λ ts. AllZip (IsHere row) ts qs) same each))

-- what the first n types of a table are enough for
module _ (table : Table) (n : ℕ) (form : CType) (made : IsMadeOf table n form) where
  pub of_pointer : (a : ℕ) → form ≡ Pointer a → a < n
  of_pointer a is = subst (IsMadeOf table n) is made

  pub of_array : (a k : ℕ) → form ≡ Array a k → a < n
  of_array a k is = subst (IsMadeOf table n) is made

  pub of_struct : (a : ℕ) → form ≡ Struct a → a < length table.members
  of_struct a is = (subst (IsMadeOf table n) is made).0

  pub of_function : (a : ℕ) (ps : List ℕ) (dots : Bool) → form ≡ Function a ps dots → All (λ u. u < n) (a ∷ ps)
  of_function a ps dots is = subst (IsMadeOf table n) is made
