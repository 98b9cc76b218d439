-- What is added and answered on the way to a part of a declared object.
use Rattle.std.specs.Prelude.{◌≡◌, ◌++◌, ◌+◌, ◌<◌, ◌^◌, ℕ, List, Result, length, IfOk, OnOk, None, Some}
use Rattle.lk_facts.specs.declared.action.Action.{Action}
use Rattle.lk_lower_expr.specs.declared.step.Deed.{Deed}

-- a step that gives a pointer of that type
abbrev pub pointing : Action → (type : ℕ) → Deed
pointing does t = record { does = does; gives = Some t; comes = None }

-- these steps are added to others, and the last of them, whose number is that, is answered: it
-- gives the pointer to the part
pub record Reaches {E : Type 0} (steps : List Deed) (number : ℕ) (old new : List Deed)
    (result : Result ℕ E) : Type 0 where
  pub deeds : OnOk result (new ≡ old ++ steps)
  pub pointer : IfOk result (λ k. k ≡ number)
  pub last : IfOk result (λ k. length new ≡ k + 1)
  pub few : IfOk result (λ k. k < 2 ^ 30)
