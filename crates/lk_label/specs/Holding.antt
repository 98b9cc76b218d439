-- The holders that are found so far. Only the private calls of this crate speak of it.
use Rattle.std.specs.Prelude.{List, AllPairs, Contains}
use Rattle.lk_facts.specs.LabelRules.{IsHolder, StandsBefore}
use Rattle.lk_facts.specs.declared.program.Program.{Program}
use Rattle.lk_facts.specs.declared.root.Holder.{Holder}

-- all holders that stand before this one, which needn't be there, in their order
pub record AreBelow (program : Program) (bound : Holder) (holders : List Holder) : Type 0 where
  pub only : (h : Holder) → Contains holders h → IsHolder program h × StandsBefore h bound
  pub all : (h : Holder) → IsHolder program h → StandsBefore h bound → Contains holders h
  pub ordered : AllPairs StandsBefore holders
