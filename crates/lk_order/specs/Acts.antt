-- What a point does to mutexes.
use Rattle.std.specs.Prelude.{ℕ, Bool, Option, length}
use Rattle.lk_facts.specs.Basis.{Basis}
use Rattle.lk_facts.specs.Origins.{flow_of}
use Rattle.lk_facts.specs.declared.action.Action.{Action}
use Rattle.lk_links.specs.Only.{IsTheOne}
use Rattle.lk_order.specs.Mutexes.{DoesTo}
use Rattle.lk_order.specs.declared.acts.Acts.{Acts}
use Rattle.lk_sets.specs.Ids.{has_id}

-- what the rules rest on
abbrev pub basis_in : Acts → Basis
basis_in acts =
    record { program = acts.points.now; labels = acts.labels.now; flow = flow_of acts.facts.now.origins }

abbrev pub linear_in : Acts → ℕ → Bool
linear_in acts = has_id acts.linear.now

-- the point does this to the mutex of the label, or does it to none
abbrev pub IsDoneTo : Basis → (Action → Option ℕ) → ℕ → Option ℕ → Type 0
IsDoneTo basis operand p = IsTheOne (λ x. (f : ℕ) × DoesTo basis operand p f x)

-- how many functions, points and labels there are
abbrev pub functions_in : Acts → ℕ
functions_in acts = length acts.points.now.functions

abbrev pub points_in : Acts → ℕ
points_in acts = length acts.points.now.points

abbrev pub labels_in : Acts → ℕ
labels_in acts = length acts.labels.now.entries
