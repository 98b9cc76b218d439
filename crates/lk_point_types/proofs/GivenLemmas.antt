-- Values of types, in order.
use Rattle.std.proofs.Common.{◌≡◌, ◌+◌, ℕ, zero, suc, List, [], ◌∷◌, Some, take, subst, sym, arith, length, refl, ap}
use Rattle.std.specs.Prelude.{slice_get}
use Rattle.std.proofs.lemmas.Option.{none-some, same_Some}
use Rattle.lk_facts.specs.Typed.{AreGiven, Gives}
use Rattle.lk_facts.specs.Typed.AreGiven.{none, more}
use Rattle.lk_facts.specs.declared.program.Program.{Program}

-- one more is given
pub given_more : (program : Program) (args types : List ℕ) (k a t : ℕ) → slice_get args k ≡ Some a → slice_get types k ≡ Some t → Gives program a t →
    AreGiven program (take k args) (take k types) → AreGiven program (take (k + 1) args) (take (k + 1) types)
given_more program [] types k a t at bt h hs = absurd (none-some a at)
given_more program (b ∷ args) [] k a t at bt h hs = absurd (none-some t bt)
given_more program (b ∷ args) (u ∷ types) zero a t at bt h hs =
    more b u [] [] (subst (λ x. Gives program x u) (sym (same_Some b a at)) (subst (λ x. Gives program a x) (sym (same_Some u t bt)) h)) none
given_more program (b ∷ args) (u ∷ types) (suc k) a t at bt h hs =
    let number : suc (k + 1) ≡ suc k + 1 = omega arith in
    elim hs [
      | more b' u' args' types' first rest ↦
          subst (λ n. AreGiven program (take n (b ∷ args)) (take n (u ∷ types))) number (more b u _ _ first (given_more program args types k a t at bt h rest))
    ]

-- each is given where all are, and there are as many
pub given_at : (program : Program) (args types : List ℕ) (k a t : ℕ) → slice_get args k ≡ Some a → slice_get types k ≡ Some t → AreGiven program args types → Gives program a t
given_at program [] types k a t at bt all = absurd (none-some a at)
given_at program (b ∷ args) [] k a t at bt all = absurd (none-some t bt)
given_at program (b ∷ args) (u ∷ types) zero a t at bt all =
    elim all [
      | more b' u' args' types' first rest ↦ subst (λ x. Gives program x t) (same_Some b a at) (subst (λ x. Gives program b x) (same_Some u t bt) first)
    ]
given_at program (b ∷ args) (u ∷ types) (suc k) a t at bt all =
    elim all [
      | more b' u' args' types' first rest ↦ given_at program args types k a t at bt rest
    ]

pub given_as_many : (program : Program) (args types : List ℕ) → AreGiven program args types → length args ≡ length types
given_as_many program _ _ none = refl
given_as_many program _ _ (more a t args types first rest) = ap suc (given_as_many program args types rest)
