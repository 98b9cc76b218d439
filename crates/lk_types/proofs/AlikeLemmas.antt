-- Types are equal but for the sizes of arrays exactly where one is the least of both.
use Rattle.std.proofs.Common.{◌≡◌, ◌∙◌, ◌≤◌, ◌<◌, ◌↔◌, ℕ, zero, suc, List, [], ◌∷◌, map, refl, sym, ap, subst, arith, All, Some}
use Rattle.std.specs.List.{slice_get}
use Rattle.std.specs.Prelude.{unwrap_or}
use Rattle.std.proofs.lemmas.List.Elements.{All-head, All-tail, All-weaker}
use Rattle.std.proofs.lemmas.Option.{slice_get_within, slice_get-get_or, unwrap_or-slice_get}
use Rattle.lk_types.specs.Building.{IsMadeOf, IsLeast}
use Rattle.lk_types.specs.Equal.{AreEqualBut, AnySizes, IsAlike}
use Rattle.lk_types.specs.Equal.IsEqualBut.{same, pointers, arrays, functions}
use Rattle.lk_types.specs.Equal.AreEqualBut.{none, more}
use Rattle.lk_types.specs.Kept.{key_form, key_of}
use Rattle.lk_types.specs.Table.{Table, type_at, least_of, IsKnown}
use Rattle.lk_types.specs.declared.c_type.CType.{CType}
use Rattle.lk_types.specs.declared.c_type.CType.TheVariants.{Void, Int, ThreadId, Mutex, Cond, Pointer, Array, Struct, Function, Opaque}

pub form_there : (table : Table) (t : ℕ) → IsKnown table t → slice_get table.types t ≡ Some (type_at table t)
form_there table t known = slice_get-get_or table.types t Void known ∙ ap Some (sym (unwrap_or-slice_get table.types t Void))

pub record AreKeys (table : Table) : Type 0 where
  pub made : (t : ℕ) → IsKnown table t → IsMadeOf table t (type_at table t)
  pub different : (t u : ℕ) (form : CType) → slice_get table.types t ≡ Some form → slice_get table.types u ≡ Some form → t ≡ u
  pub shared : (t : ℕ) → IsKnown table t → key_of table (least_of table t) ≡ key_of table t
  pub decides : (t u : ℕ) → IsKnown table t → IsKnown table u → key_of table t ≡ key_of table u → least_of table t ≡ least_of table u
  pub lesser : (t : ℕ) → IsKnown table t → least_of table t ≤ t

module _ (table : Table) (keys : AreKeys table) where
  key_is : (t : ℕ) (form : CType) → slice_get table.types t ≡ Some form → key_of table t ≡ key_form (least_of table) form
  key_is t form at = ap (λ o. key_form (least_of table) (unwrap_or o Void)) at

  made_is : (t : ℕ) (form : CType) → slice_get table.types t ≡ Some form → IsMadeOf table t form
  made_is t form at = subst (IsMadeOf table t) (ap (λ o. unwrap_or o Void) at) (keys.made t (slice_get_within table.types t form at))

  known_of : (t : ℕ) (form : CType) → slice_get table.types t ≡ Some form → IsKnown table t
  known_of t form at = slice_get_within table.types t form at

  known_all : (t : ℕ) (form : CType) → slice_get table.types t ≡ Some form → (us : List ℕ) → All (λ u. u < t) us → All (IsKnown table) us
  known_all t form at us all = All-weaker (λ u. u < t) (IsKnown table) (λ u less. let l : u < t = less in omega (arith, known_of t form at)) us all

  mutual
    pub least_from : {a b : ℕ} → IsAlike table.types a b → least_of table a ≡ least_of table b
    least_from (same is) = ap (least_of table) is
    least_from (pointers {a} {b} {s} {t} at bt h) =
        keys.decides a b (known_of a (Pointer s) at) (known_of b (Pointer t) bt) (key_is a (Pointer s) at ∙ ap Pointer (least_from h) ∙ sym (key_is b (Pointer t) bt))
    least_from (arrays {a} {b} {s} {t} {n} {m} at bt h sizes) =
        keys.decides a b (known_of a (Array s n) at) (known_of b (Array t m) bt) (key_is a (Array s n) at ∙ ap (λ l. Array l 0) (least_from h) ∙ sym (key_is b (Array t m) bt))
    least_from (functions {a} {b} {r} {s} {ps} {qs} {dots} at bt h hs) =
        keys.decides a b (known_of a (Function r ps dots) at) (known_of b (Function s qs dots) bt)
        (key_is a (Function r ps dots) at ∙ ap (λ l. Function l (map (least_of table) ps) dots) (least_from h) ∙ ap (λ ls. Function (least_of table s) ls dots) (leasts_from hs) ∙ sym (key_is b (Function s qs dots) bt))

    leasts_from : {ps qs : List ℕ} → AreEqualBut AnySizes table.types ps qs → map (least_of table) ps ≡ map (least_of table) qs
    leasts_from none = refl
    leasts_from (more {a} {b} {ps} {qs} h hs) = ap (λ l. l ∷ map (least_of table) ps) (least_from h) ∙ ap (λ ls. least_of table b ∷ ls) (leasts_from hs)

  abbrev Below : ℕ → Type 0
  Below a = (s t : ℕ) → s < a → IsKnown table t → least_of table s ≡ least_of table t → IsAlike table.types s t

  all_from : (a : ℕ) → Below a → (ps qs : List ℕ) → All (λ u. u < a) ps → All (IsKnown table) qs → map (least_of table) ps ≡ map (least_of table) qs → AreEqualBut AnySizes table.types ps qs
  all_from a below [] [] lower known is = none
  all_from a below [] (q ∷ qs) lower known is = absurd cc
  all_from a below (p ∷ ps) [] lower known is = absurd cc
  all_from a below (p ∷ ps) (q ∷ qs) lower known is =
      let head : least_of table p ≡ least_of table q = cc in
      let tail : map (least_of table) ps ≡ map (least_of table) qs = cc in
      more (below p q (All-head (λ u. u < a) p ps lower) (All-head (IsKnown table) q qs known) head)
      (all_from a below ps qs (All-tail (λ u. u < a) p ps lower) (All-tail (IsKnown table) q qs known) tail)

  same_forms : (a b : ℕ) (fa fb : CType) → slice_get table.types a ≡ Some fa → slice_get table.types b ≡ Some fb → fa ≡ fb → IsAlike table.types a b
  same_forms a b fa fb at bt is = same (keys.different a b fb (at ∙ ap Some is) bt)

  from_forms : (a b : ℕ) (fa fb : CType) → slice_get table.types a ≡ Some fa → slice_get table.types b ≡ Some fb → key_form (least_of table) fa ≡ key_form (least_of table) fb → Below a → IsAlike table.types a b
  from_forms a b Void Void at bt is below = same_forms a b Void Void at bt refl
  from_forms a b (Int k) (Int l) at bt is below = same_forms a b (Int k) (Int l) at bt is
  from_forms a b ThreadId ThreadId at bt is below = same_forms a b ThreadId ThreadId at bt refl
  from_forms a b Mutex Mutex at bt is below = same_forms a b Mutex Mutex at bt refl
  from_forms a b Cond Cond at bt is below = same_forms a b Cond Cond at bt refl
  from_forms a b (Pointer s) (Pointer t) at bt is below =
      let least : least_of table s ≡ least_of table t = cc in
      pointers at bt (below s t (made_is a (Pointer s) at) (let made = made_is b (Pointer t) bt in omega (arith, made, known_of b (Pointer t) bt)) least)
  from_forms a b (Array s n) (Array t m) at bt is below =
      let least : least_of table s ≡ least_of table t = cc in
      arrays at bt (below s t (made_is a (Array s n) at) (let made = made_is b (Array t m) bt in omega (arith, made, known_of b (Array t m) bt)) least) tt
  from_forms a b (Struct s) (Struct t) at bt is below = same_forms a b (Struct s) (Struct t) at bt is
  from_forms a b (Function r ps d) (Function s qs e) at bt is below =
      let least : least_of table r ≡ least_of table s = cc in
      let leasts : map (least_of table) ps ≡ map (least_of table) qs = cc in
      let dots : e ≡ d = cc in
      let lower = made_is a (Function r ps d) at in
      let known = known_all b (Function s qs e) bt (s ∷ qs) (made_is b (Function s qs e) bt) in
      functions at (bt ∙ ap (λ dots. Some (Function s qs dots)) dots)
      (below r s (All-head (λ u. u < a) r ps lower) (All-head (IsKnown table) s qs known) least)
      (all_from a below ps qs (All-tail (λ u. u < a) r ps lower) (All-tail (IsKnown table) s qs known) leasts)
  from_forms a b (Opaque n) (Opaque m) at bt is below = same_forms a b (Opaque n) (Opaque m) at bt is
  from_forms a b fa fb at bt is below = absurd cc

  alike_below : (n a b : ℕ) → a < n → IsKnown table a → IsKnown table b → least_of table a ≡ least_of table b → IsAlike table.types a b
  alike_below zero a b low known known' is = absurd (omega arith)
  alike_below (suc n) a b low known known' is =
      from_forms a b (type_at table a) (type_at table b) (form_there table a known) (form_there table b known')
      (sym (keys.shared a known) ∙ ap (key_of table) is ∙ keys.shared b known')
      (λ s t less there least. alike_below n s t (omega arith) (omega arith) there least)

  pub alike_from : (a b : ℕ) → IsKnown table a → IsKnown table b → least_of table a ≡ least_of table b → IsAlike table.types a b
  alike_from a b known known' is = alike_below (suc a) a b (omega arith) known known' is

  pub alike_iff : (a b : ℕ) → IsKnown table a → IsKnown table b → IsAlike table.types a b ↔ (least_of table a ≡ least_of table b)
  alike_iff a b known known' = (λ h. least_from h, λ is. alike_from a b known known' is)

  pub is_least : (t : ℕ) → IsKnown table t → IsLeast table t (least_of table t)
  is_least t known =
      let low = keys.lesser t known in
      let there : IsKnown table (least_of table t) = omega arith in
      record {
        alike = alike_from (least_of table t) t there known (keys.decides (least_of table t) t there known (keys.shared t known));
        least = λ v known' h. let l = keys.lesser v known' in let is = least_from h in omega arith;
      }
