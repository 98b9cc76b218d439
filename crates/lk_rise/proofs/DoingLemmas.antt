-- What points access through the operands of their effects, and where items rise.
use Rattle.std.proofs.Common.{◌≡◌, ◌<◌, ℕ, length, Some, refl, ap, ◌∙◌}
use Rattle.std.specs.Option.{unwrap_or}
use Rattle.std.proofs.lemmas.Option.{none-some}
use Rattle.lk_facts.proofs.Ranges.{live_within}
use Rattle.lk_facts.specs.Basis.{Basis}
use Rattle.lk_facts.specs.Doing.{Does, Accesses}
use Rattle.lk_facts.specs.Doing.Accesses.{reads, writes}
use Rattle.lk_facts.specs.Effects.{accessed}
use Rattle.lk_facts.specs.Labels.{target_at}
use Rattle.lk_facts.specs.declared.effect.Effect.{Effect}
use Rattle.lk_facts.specs.declared.effect.Effect.TheVariants.{Nothing, Reads, Writes, Takes, Frees, Runs, RunsThrough, Starts}

module _ (basis : Basis) where
  -- what accesses through an operand is an access of what that points to
  pub accessing : (p f x a : ℕ) (done : Effect) → Does basis.program p f done → accessed done ≡ Some a → target_at basis.labels a ≡ Some x → Accesses basis p f x
  accessing p f x a (Reads b) does is target = reads b does (ap (target_at basis.labels) (ap (λ o. unwrap_or o b) is) ∙ target)
  accessing p f x a (Writes b) does is target = writes b does (ap (target_at basis.labels) (ap (λ o. unwrap_or o b) is) ∙ target)
  accessing p f x a Nothing does is target = absurd (none-some a is)
  accessing p f x a (Takes b) does is target = absurd (none-some a is)
  accessing p f x a (Frees b) does is target = absurd (none-some a is)
  accessing p f x a (Runs g) does is target = absurd (none-some a is)
  accessing p f x a (RunsThrough b) does is target = absurd (none-some a is)
  accessing p f x a (Starts g) does is target = absurd (none-some a is)

  -- and no other is
  pub accessed_by : (p f x : ℕ) → Accesses basis p f x → (a : ℕ) × (done : Effect) × Does basis.program p f done × (accessed done ≡ Some a) × (target_at basis.labels a ≡ Some x)
  accessed_by p f x (reads a does target) = (a, Reads a, does, refl, target)
  accessed_by p f x (writes a does target) = (a, Writes a, does, refl, target)

  -- only points access anything
  pub accesses_within : (p f x : ℕ) → Accesses basis p f x → p < length basis.program.points
  accesses_within p f x accesses = live_within basis.program p (accessed_by p f x accesses).2.live
