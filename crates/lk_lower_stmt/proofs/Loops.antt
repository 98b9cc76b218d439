-- Statements one after the other, from the last to the first.
use Rattle.std.proofs.Common.{sym, ap, ◌∙◌, ◌≡◌, ◌++◌, ℕ, List, Result, Ok, Err, append_assoc, append-nil}
use Rattle.std.specs.Prelude.{[], ◌∷◌, map}
use Rattle.lk_base.specs.declared.spot.Spot.{Spot}
use Rattle.lk_lower_expr.specs.Laid.{laid}
use Rattle.lk_lower_expr.specs.Names.{Names}
use Rattle.lk_lower_expr.specs.Parts.{Part}
use Rattle.lk_lower_expr.specs.Statements.{Flow, all_in, first_in, if_flow, labelled_in, to}
use Rattle.lk_lower_expr.specs.declared.goals.Goals.{Goals}
use Rattle.lk_lower_expr.specs.declared.goals.Labelled.{Labelled}
use Rattle.lk_lower_expr.specs.declared.step.NamedStep.{NamedStep}
use Rattle.lk_lower_stmt.specs.Flows.{then_flow}
use Rattle.lk_lower_stmt.specs.Lays.{Adds, Lays}
use Rattle.lk_lower_stmt.specs.declared.lowering.Lowered.{Lowered}

module _ {A : Type 0} (flow : A → Flow) (go : Goals) (all rest : List A) (x : A) (turn : all ≡ x ∷ rest) (behind : Goals) (next : ℕ) (goes : behind ≡ to next go) (nexts : next ≡ first_in (map flow rest) go) where
  behind_it : behind ≡ to (first_in (map flow rest) go) go
  behind_it = goes ∙ ap (λ n. to n go) nexts

  pub next_first : (first : ℕ) → first ≡ (flow x).first behind → first ≡ first_in (map flow all) go
  next_first first is = is ∙ ap (flow x).first behind_it ∙ sym (ap (λ xs. first_in (map flow xs) go) turn)

  pub next_steps : (old mid new : List NamedStep) → mid ≡ laid (all_in (map flow rest) go) old → new ≡ laid ((flow x).all behind) mid → new ≡ laid (all_in (map flow all) go) old
  next_steps old mid new mids news =
      news ∙ ap (λ g. laid ((flow x).all g) mid) behind_it ∙ ap (laid ((flow x).all (to (first_in (map flow rest) go) go))) mids ∙
      sym (ap (λ xs. laid (all_in (map flow xs) go) old) turn)

  pub next_labelled : (old mid new : List Labelled) → mid ≡ old ++ labelled_in (map flow rest) go → new ≡ mid ++ (flow x).labelled behind → new ≡ old ++ labelled_in (map flow all) go
  next_labelled old mid new mids news =
      news ∙ ap (λ g. mid ++ (flow x).labelled g) behind_it ∙ ap (λ ls. ls ++ (flow x).labelled (to (first_in (map flow rest) go) go)) mids ∙
      append_assoc old (labelled_in (map flow rest) go) ((flow x).labelled (to (first_in (map flow rest) go) go)) ∙ sym (ap (λ xs. old ++ labelled_in (map flow xs) go) turn)

-- nothing more is labelled
pub unlabelled : (old more : List Labelled) → more ≡ [] → old ≡ old ++ more
unlabelled old more none = sym (ap (λ ls. old ++ ls) none ∙ append-nil old)

-- two lists that are added one after the other
pub joined : (old mid new left right : List Labelled) → mid ≡ old ++ left → new ≡ mid ++ right → new ≡ old ++ (left ++ right)
joined old mid new left right mids news = news ∙ ap (λ ls. ls ++ right) mids ∙ append_assoc old left right

-- a flow in which nothing is labelled
pub only_added : {E : Type 0} (flow : Flow) (go : Goals) (old new : Lowered) (result : Result ℕ E) →
    Adds flow go old.steps.items new.steps.items result → new.labelled.items ≡ old.labelled.items → flow.labelled go ≡ [] → Lays flow go old new result
only_added flow go old new (Ok point) adds same none = record { first = adds.first; steps = adds.steps; labelled = same ∙ unlabelled old.labelled.items _ none }
only_added flow go old new (Err e) adds same none = record { first = tt; steps = tt; labelled = tt }

-- an `if`, whose second statement is added before the others
pub with_else : {E : Type 0} (names : Names) (o : ℕ) (spot : Spot) (c : Part) (a b : Flow) (go : Goals) (other : ℕ) (old mid new : Lowered) (result : Result ℕ E) →
    other ≡ b.first go → mid.steps.items ≡ laid (b.all go) old.steps.items → mid.labelled.items ≡ old.labelled.items ++ b.labelled go →
    Lays (then_flow names o spot c a other) go mid new result → Lays (if_flow names o spot c a b) go old new result
with_else names o spot c a b go other old mid new (Ok point) begins steps labelled lays = record {
  first = lays.first;
  steps = lays.steps ∙ ap (λ n. laid ((then_flow names o spot c a n).all go) mid.steps.items) begins ∙ ap (laid ((then_flow names o spot c a (b.first go)).all go)) steps;
  labelled = joined _ _ _ _ _ labelled lays.labelled;
}
with_else names o spot c a b go other old mid new (Err e) begins steps labelled lays = record { first = tt; steps = tt; labelled = tt }
