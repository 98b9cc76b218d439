-- When types are equal but for absent sizes, by what they are made of.
use Rattle.std.proofs.Common.{◌≡◌, ◌∙◌, ◌≤◌, ◌<◌, ◌+◌, ◌↔◌, ℕ, zero, suc, Bool, List, [], ◌∷◌, length, refl, sym, ap, subst, arith, All, Some, take, max}
use Rattle.std.specs.List.{slice_get}
use Rattle.std.proofs.lemmas.List.Elements.{All-head, All-tail, All-weaker}
use Rattle.std.proofs.lemmas.Option.{none-some, same_Some}
use Rattle.lk_types.specs.Building.{IsMadeOf}
use Rattle.lk_types.specs.Equal.{AreEqualBut, SizesOrNone, IsRedeclarable, AreMadeAlike}
use Rattle.lk_types.specs.Equal.IsEqualBut.{same, pointers, arrays, functions}
use Rattle.lk_types.specs.Equal.AreEqualBut.{none, more}
use Rattle.lk_types.specs.Table.{Table, IsKnown, HasKnown}
use Rattle.lk_types.specs.declared.c_type.CType.{CType}
use Rattle.lk_types.specs.declared.c_type.CType.TheVariants.{Void, Int, ThreadId, Mutex, Cond, Pointer, Array, Struct, Function, Opaque}

-- a number above each of these
pub above_all : List ℕ → ℕ
above_all [] = 0
above_all (t ∷ ts) = max (suc t) (above_all ts)

-- a number above each type that is reached in a form without its struct
pub above : CType → ℕ
above Void = 0
above (Int kind) = 0
above ThreadId = 0
above Mutex = 0
above Cond = 0
above (Pointer t) = suc t
above (Array t n) = suc t
above (Struct s) = 0
above (Function result params dots) = above_all (result ∷ params)
above (Opaque n) = 0

pub above_bound : (n : ℕ) (ts : List ℕ) → All (λ t. t < n) ts → above_all ts ≤ n
unfolding above_all
above_bound n [] all = omega arith
above_bound n (t ∷ ts) all = let first : t < n = All-head (λ t. t < n) t ts all in let rest = above_bound n ts (All-tail (λ t. t < n) t ts all) in omega arith

pub above_at : (ts : List ℕ) (k t : ℕ) → slice_get ts k ≡ Some t → t < above_all ts
unfolding above_all
above_at [] k t at = absurd (none-some t at)
above_at (u ∷ ts) zero t at = let is = same_Some u t at in omega arith
above_at (u ∷ ts) (suc k) t at = let rest = above_at ts k t at in omega arith

-- what a form is made of is below its number
pub above_pointer : (form : CType) (t : ℕ) → form ≡ Pointer t → t < above form
unfolding above
above_pointer form t is = let e : above form ≡ suc t = ap above is in omega arith

pub above_array : (form : CType) (t n : ℕ) → form ≡ Array t n → t < above form
unfolding above
above_array form t n is = let e : above form ≡ suc t = ap above is in omega arith

pub above_result : (form : CType) (r : ℕ) (ps : List ℕ) (dots : Bool) → form ≡ Function r ps dots → r < above form
unfolding above above_all
above_result form r ps dots is = let e : above form ≡ max (suc r) (above_all ps) = ap above is in omega arith

pub above_params : (form : CType) (r : ℕ) (ps : List ℕ) (dots : Bool) → form ≡ Function r ps dots → above_all ps ≤ above form
unfolding above above_all
above_params form r ps dots is = let e : above form ≡ max (suc r) (above_all ps) = ap above is in omega arith

-- a type is above what it is made of
pub above_made : (table : Table) (t : ℕ) (form : CType) → IsMadeOf table t form → above form ≤ t
unfolding above
above_made table t Void made = omega arith
above_made table t (Int kind) made = omega arith
above_made table t ThreadId made = omega arith
above_made table t Mutex made = omega arith
above_made table t Cond made = omega arith
above_made table t (Pointer u) made = let less : u < t = made in omega arith
above_made table t (Array u n) made = let less : u < t = made in omega arith
above_made table t (Struct s) made = omega arith
above_made table t (Function result params dots) made = above_bound t (result ∷ params) made
above_made table t (Opaque n) made = omega arith

pub made_known : (table : Table) (t : ℕ) (form : CType) → IsKnown table t → IsMadeOf table t form → HasKnown table form
made_known table t Void known made = tt
made_known table t (Int kind) known made = tt
made_known table t ThreadId known made = tt
made_known table t Mutex known made = tt
made_known table t Cond known made = tt
made_known table t (Pointer u) known made = let less : u < t = made in omega (arith, known)
made_known table t (Array u n) known made = let less : u < t = made in omega (arith, known)
made_known table t (Struct s) known made = made.0
made_known table t (Function result params dots) known made = All-weaker (λ u. u < t) (IsKnown table) (λ u less. let l : u < t = less in omega (arith, known)) (result ∷ params) made
made_known table t (Opaque n) known made = tt

-- forms of types that are equal but for absent sizes, and not the same
parts_alike : (types : List CType) (a b : ℕ) (fa fb : CType) → slice_get types a ≡ Some fa → slice_get types b ≡ Some fb → (a ≡ b → ⊥) → IsRedeclarable types a b → AreMadeAlike types fa fb
parts_alike types a b fa fb at bt other (same is) = absurd (other is)
parts_alike types a b fa fb at bt other (pointers {s = s} {t = t} at' bt' h) =
    let one = same_Some (Pointer s) fa (sym at' ∙ at) in let two = same_Some (Pointer t) fb (sym bt' ∙ bt) in
    subst (λ f. AreMadeAlike types f fb) one (subst (λ f. AreMadeAlike types (Pointer s) f) two h)
parts_alike types a b fa fb at bt other (arrays {s = s} {t = t} {n = n} {m = m} at' bt' h sizes) =
    let one = same_Some (Array s n) fa (sym at' ∙ at) in let two = same_Some (Array t m) fb (sym bt' ∙ bt) in
    subst (λ f. AreMadeAlike types f fb) one (subst (λ f. AreMadeAlike types (Array s n) f) two (sizes, h))
parts_alike types a b fa fb at bt other (functions {r = r} {s = s} {ps = ps} {qs = qs} {dots = dots} at' bt' h hs) =
    let one = same_Some (Function r ps dots) fa (sym at' ∙ at) in let two = same_Some (Function s qs dots) fb (sym bt' ∙ bt) in
    subst (λ f. AreMadeAlike types f fb) one (subst (λ f. AreMadeAlike types (Function r ps dots) f) two (refl, h, hs))

alike_parts : (types : List CType) (a b : ℕ) (fa fb : CType) → slice_get types a ≡ Some fa → slice_get types b ≡ Some fb → AreMadeAlike types fa fb → IsRedeclarable types a b
alike_parts types a b (Pointer s) (Pointer t) at bt h = pointers at bt h
alike_parts types a b (Array s n) (Array t m) at bt h = arrays at bt h.1 h.0
alike_parts types a b (Function r ps dots) (Function s qs dots') at bt h =
    functions at (bt ∙ ap (λ d. Some (Function s qs d)) (sym h.0)) h.1 h.2
alike_parts types a b fa fb at bt h = absurd h

pub made_alike : (types : List CType) (a b : ℕ) (fa fb : CType) → slice_get types a ≡ Some fa → slice_get types b ≡ Some fb → (a ≡ b → ⊥) → AreMadeAlike types fa fb ↔ IsRedeclarable types a b
made_alike types a b fa fb at bt other = (alike_parts types a b fa fb at bt, parts_alike types a b fa fb at bt other)

-- lists
pub lists_long : {types : List CType} {ps qs : List ℕ} → AreEqualBut SizesOrNone types ps qs → length ps ≡ length qs
lists_long none = refl
lists_long (more h hs) = ap suc (lists_long hs)

pub lists_at : {types : List CType} {ps qs : List ℕ} → AreEqualBut SizesOrNone types ps qs → (k p q : ℕ) → slice_get ps k ≡ Some p → slice_get qs k ≡ Some q → IsRedeclarable types p q
lists_at none k p q at bt = absurd (none-some p at)
lists_at {types} (more {a} {b} h hs) zero p q at bt = subst (λ x. IsRedeclarable types x q) (same_Some a p at) (subst (λ x. IsRedeclarable types a x) (same_Some b q bt) h)
lists_at (more h hs) (suc k) p q at bt = lists_at hs k p q at bt

pub lists_more : {types : List CType} (ps qs : List ℕ) (k p q : ℕ) → slice_get ps k ≡ Some p → slice_get qs k ≡ Some q → IsRedeclarable types p q →
    AreEqualBut SizesOrNone types (take k ps) (take k qs) → AreEqualBut SizesOrNone types (take (k + 1) ps) (take (k + 1) qs)
lists_more [] qs k p q at bt h hs = absurd (none-some p at)
lists_more (a ∷ ps) [] k p q at bt h hs = absurd (none-some q bt)
lists_more {types} (a ∷ ps) (b ∷ qs) zero p q at bt h hs = more (subst (λ x. IsRedeclarable types x b) (sym (same_Some a p at)) (subst (λ x. IsRedeclarable types p x) (sym (same_Some b q bt)) h)) none
lists_more {types} (a ∷ ps) (b ∷ qs) (suc k) p q at bt h hs =
    let number : suc (k + 1) ≡ suc k + 1 = omega arith in
    elim hs [
      | more first rest ↦ subst (λ n. AreEqualBut SizesOrNone types (take n (a ∷ ps)) (take n (b ∷ qs))) number (more first (lists_more ps qs k p q at bt h rest))
    ]
