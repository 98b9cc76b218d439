-- Names that are compared the other way round.
use Rattle.std.proofs.Common.{◌≡◌, ◌∙◌, ℕ, Bool, true, false, List, refl, sym}
use Rattle.std.proofs.lemmas.Slice.Eq.{bytes_eq-Decides}
use Rattle.lk_typed.specs.Env.{is_name}

pub name_turned : (a b : List ℕ) → is_name a b ≡ is_name b a
name_turned a b = by (is_name a b) (is_name b a) refl refl
  where
    by : (p q : Bool) → is_name a b ≡ p → is_name b a ≡ q → p ≡ q
    by true q p_is q_is = sym ((bytes_eq-Decides b a).1 (sym ((bytes_eq-Decides a b).0 p_is))) ∙ q_is
    by false true p_is q_is = sym p_is ∙ (bytes_eq-Decides a b).1 (sym ((bytes_eq-Decides b a).0 q_is))
    by false false p_is q_is = refl
