-- Types of two tables are one exactly where their forms are made in the same way.
use Rattle.std.proofs.Common.{◌≡◌, ◌∙◌, ℕ, zero, suc, Bool, true, List, [], ◌∷◌, length, refl, sym, ap, subst, Some, take}
use Rattle.std.specs.List.{slice_get}
use Rattle.std.proofs.lemmas.Option.{none-some, same_Some}
use Rattle.lk_link.specs.Comparing.{SideTable, IsAnsweredHere, AreOneHere, AreAllOneHere, AreMadeAs}
use Rattle.lk_link.proofs.Answering.{answered_then}
use Rattle.lk_link.specs.Types.{IsPlain}
use Rattle.lk_link.specs.Types.AreOne.{plain, pointers, arrays, structs, functions}
use Rattle.lk_link.specs.Types.AreAllOne.{none, more}
use Rattle.lk_link.specs.declared.place.SizeRule.{SizeRule}
use Rattle.lk_link.specs.declared.place.StructPair.{StructPair}
use Rattle.lk_types.specs.declared.c_type.CType.{CType}
use Rattle.lk_types.specs.declared.c_type.CType.TheVariants.{Void, Int, ThreadId, Mutex, Cond, Pointer, Array, Struct, Function, Opaque}

module _ (first second : SideTable) (rule : SizeRule) (ps : List StructPair) where
  plain_made : (form : CType) → IsPlain form → AreMadeAs first second ps rule form form
  plain_made Void is = refl
  plain_made (Int kind) is = refl
  plain_made ThreadId is = refl
  plain_made Mutex is = refl
  plain_made Cond is = refl
  plain_made (Pointer t) is = absurd is
  plain_made (Array t n) is = absurd is
  plain_made (Struct s) is = absurd is
  plain_made (Function r qs dots) is = absurd is
  plain_made (Opaque n) is = refl

  moved : {f g f' g' : CType} → Some f ≡ Some f' → Some g ≡ Some g' → AreMadeAs first second ps rule f g → AreMadeAs first second ps rule f' g'
  moved {f} {g} {f'} {g'} e d h = subst (λ x. AreMadeAs first second ps rule x g') (same_Some f f' e) (subst (λ x. AreMadeAs first second ps rule f x) (same_Some g g' d) h)

  pub parts_of_one : {t u : ℕ} (f g : CType) → slice_get first.types.types t ≡ Some f → slice_get second.types.types u ≡ Some g → AreOneHere first second ps rule t u → AreMadeAs first second ps rule f g
  parts_of_one f g at bt (plain {form = form} at' bt' is) = moved (sym at' ∙ at) (sym bt' ∙ bt) (plain_made form is)
  parts_of_one f g at bt (pointers {a = a} {b = b} at' bt' h) = moved {f = Pointer a} {g = Pointer b} (sym at' ∙ at) (sym bt' ∙ bt) (b, refl, h)
  parts_of_one f g at bt (arrays {a = a} {b = b} {n = n} {m = m} at' bt' sizes h) = moved {f = Array a n} {g = Array b m} (sym at' ∙ at) (sym bt' ∙ bt) (b, m, refl, sizes, h)
  parts_of_one f g at bt (structs {a = a} {b = b} at' bt' h) = moved {f = Struct a} {g = Struct b} (sym at' ∙ at) (sym bt' ∙ bt) (b, refl, h)
  parts_of_one f g at bt (functions {a = a} {b = b} {ps = ts} {qs = us} {dots = dots} at' bt' h hs) =
      moved {f = Function a ts dots} {g = Function b us dots} (sym at' ∙ at) (sym bt' ∙ bt) (b, us, refl, h, hs)

  pub one_of_parts : {t u : ℕ} (f g : CType) → slice_get first.types.types t ≡ Some f → slice_get second.types.types u ≡ Some g → AreMadeAs first second ps rule f g → AreOneHere first second ps rule t u
  one_of_parts Void g at bt h = plain at (bt ∙ ap Some h) tt
  one_of_parts (Int kind) g at bt h = plain at (bt ∙ ap Some h) tt
  one_of_parts ThreadId g at bt h = plain at (bt ∙ ap Some h) tt
  one_of_parts Mutex g at bt h = plain at (bt ∙ ap Some h) tt
  one_of_parts Cond g at bt h = plain at (bt ∙ ap Some h) tt
  one_of_parts (Pointer a) g at bt h = pointers at (bt ∙ ap Some h.1) h.2
  one_of_parts (Array a n) g at bt h = arrays at (bt ∙ ap Some h.2) h.3 h.4
  one_of_parts (Struct a) g at bt h = structs at (bt ∙ ap Some h.1) h.2
  one_of_parts (Function a ts dots) g at bt h = functions at (bt ∙ ap Some h.2) h.3 h.4
  one_of_parts (Opaque n) g at bt h = plain at (bt ∙ ap Some h) tt

  -- lists
  pub all_long : {ts us : List ℕ} → AreAllOneHere first second ps rule ts us → length ts ≡ length us
  all_long none = refl
  all_long (more h hs) = ap suc (all_long hs)

  pub all_at : {ts us : List ℕ} → AreAllOneHere first second ps rule ts us → (k t u : ℕ) → slice_get ts k ≡ Some t → slice_get us k ≡ Some u → AreOneHere first second ps rule t u
  all_at none k t u at bt = absurd (none-some t at)
  all_at (more {t = a} {u = b} h hs) zero t u at bt = subst (λ x. AreOneHere first second ps rule x u) (same_Some a t at) (subst (λ x. AreOneHere first second ps rule a x) (same_Some b u bt) h)
  all_at (more h hs) (suc k) t u at bt = all_at hs k t u at bt

  pub all_more : (ts us : List ℕ) (k t u : ℕ) → slice_get ts k ≡ Some t → slice_get us k ≡ Some u →
      AreAllOneHere first second ps rule (take k ts) (take k us) → AreOneHere first second ps rule t u → AreAllOneHere first second ps rule (take (suc k) ts) (take (suc k) us)
  all_more [] us k t u at bt hs h = absurd (none-some t at)
  all_more (a ∷ ts) [] k t u at bt hs h = absurd (none-some u bt)
  all_more (a ∷ ts) (b ∷ us) zero t u at bt hs h = more (subst (λ x. AreOneHere first second ps rule x b) (sym (same_Some a t at)) (subst (λ x. AreOneHere first second ps rule t x) (sym (same_Some b u bt)) h)) none
  all_more (a ∷ ts) (b ∷ us) (suc k) t u at bt (more one rest) h = more one (all_more ts us k t u at bt rest h)

  pub all_less : (ts us : List ℕ) (k : ℕ) → AreAllOneHere first second ps rule (take (suc k) ts) (take (suc k) us) → AreAllOneHere first second ps rule (take k ts) (take k us)
  all_less [] [] zero hs = none
  all_less [] [] (suc k) hs = none
  all_less [] (b ∷ us) zero hs = none
  all_less [] (b ∷ us) (suc k) hs = elim hs [ ]
  all_less (a ∷ ts) [] zero hs = none
  all_less (a ∷ ts) [] (suc k) hs = elim hs [ ]
  all_less (a ∷ ts) (b ∷ us) zero hs = none
  all_less (a ∷ ts) (b ∷ us) (suc k) (more one rest) = more one (all_less ts us k rest)

  pub all_last : (ts us : List ℕ) (k t u : ℕ) → slice_get ts k ≡ Some t → slice_get us k ≡ Some u → AreAllOneHere first second ps rule (take (suc k) ts) (take (suc k) us) → AreOneHere first second ps rule t u
  all_last [] us k t u at bt hs = absurd (none-some t at)
  all_last (a ∷ ts) [] k t u at bt hs = absurd (none-some u bt)
  all_last (a ∷ ts) (b ∷ us) zero t u at bt (more one rest) = subst (λ x. AreOneHere first second ps rule x u) (same_Some a t at) (subst (λ x. AreOneHere first second ps rule a x) (same_Some b u bt) one)
  all_last (a ∷ ts) (b ∷ us) (suc k) t u at bt (more one rest) = all_last ts us k t u at bt rest

  pub all_take : {ts us : List ℕ} → AreAllOneHere first second ps rule ts us → (k : ℕ) → AreAllOneHere first second ps rule (take k ts) (take k us)
  all_take none zero = none
  all_take none (suc k) = none
  all_take (more h hs) zero = none
  all_take (more h hs) (suc k) = more h (all_take hs k)

module _ (first second : SideTable) (rule : SizeRule) where
  -- two functions: first their results were asked, and then their parameters
  pub functions_answered : {old middle new : List StructPair} {answer : Bool} (a b : ℕ) (ts us : List ℕ) (d e : Bool) → d ≡ e →
      IsAnsweredHere first second old middle (λ ps. AreOneHere first second ps rule a b) true → IsAnsweredHere first second middle new (λ ps. AreAllOneHere first second ps rule ts us) answer →
      IsAnsweredHere first second old new (λ ps. AreMadeAs first second ps rule (Function a ts d) (Function b us e)) answer
  functions_answered a b ts us d e same one all =
      answered_then (λ ps. AreOneHere first second ps rule a b) (λ ps. AreAllOneHere first second ps rule ts us) (λ ps. AreMadeAs first second ps rule (Function a ts d) (Function b us e))
      (λ ps h hs. (b, us, ap (λ x. Function b us x) (sym same), h, hs))
      (λ ps h. result_of ps h)
      (λ ps h. params_of ps h)
      one all
    where
      result_of : (ps : List StructPair) → AreMadeAs first second ps rule (Function a ts d) (Function b us e) → AreOneHere first second ps rule a b
      result_of ps h = let is : h.0 ≡ b = cc (h.2) in subst (λ x. AreOneHere first second ps rule a x) is h.3

      params_of : (ps : List StructPair) → AreMadeAs first second ps rule (Function a ts d) (Function b us e) → AreAllOneHere first second ps rule ts us
      params_of ps h = let is : h.1 ≡ us = cc (h.2) in subst (λ x. AreAllOneHere first second ps rule ts x) is h.4
