-- An errand, as the definitions see it, and what private calls answer of it.
use Rattle.std.specs.Bool.{⊤}
use Rattle.std.specs.Prelude.{ℕ, List}
use Rattle.lk_sources.specs.declared.fault.SourcesFault.{SourcesFault}
use Rattle.lk_sources.specs.declared.fault.SourcesFault.TheVariants as fault
use Rattle.lk_sources.specs.declared.reading.Source.{Source}
use Rattle.lk_top.specs.Outcome as spec
use Rattle.lk_top.specs.declared.errand.Errand.{Errand}
use Rattle.lk_top.specs.declared.errand.Errand.TheVariants.{Check, Order, Play}

abbrev pub seen_errand : Errand → spec.Errand
seen_errand Check = spec.Checks
seen_errand Order = spec.Orders
seen_errand (Play turns) = spec.Plays turns.items

-- the refusal of a schedule
abbrev pub TellsBadSchedule : List (List ℕ) → List Source → SourcesFault → Type 0
TellsBadSchedule names others (fault.Refused file refusal) = spec.HasBadSchedule names others file refusal
TellsBadSchedule names others (fault.Unread name) = ⊥
TellsBadSchedule names others fault.NoMemory = ⊤
