-- What sources define.
use Rattle.std.specs.Prelude.{ℕ, Option, slice_get}
use Rattle.std.specs.Option.{option_and_then}
use Rattle.lk_typed.specs.declared.entity.Entity.{Entity}
use Rattle.lk_typed.specs.declared.whole.Linked.{Linked}
use Rattle.lk_typed.specs.declared.whole.Whole.{Whole}

-- the source that defines an entity of the program, and the entity's number there
abbrev pub defined_of : Whole → ℕ → Option (ℕ × ℕ)
defined_of whole here = option_and_then (λ entity. entity.defined) (slice_get whole.entities here)

-- the same of an entity of a source
abbrev pub defined_by : Whole → Linked → ℕ → Option (ℕ × ℕ)
defined_by whole linked e = option_and_then (defined_of whole) (slice_get linked.entities e)

abbrev pub entity_in : Whole → (s e : ℕ) → Option Entity
entity_in whole s e = option_and_then (λ linked. slice_get linked.unit.entities e) (slice_get whole.sources s)
