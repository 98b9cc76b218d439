use Rattle.std.proofs.Common.{◌≡◌}
use Rattle.lk_rise.specs.Passing.{IsPassage}
use Rattle.lk_rise.specs.Tables.{setting}
use Rattle.lk_rise.proofs.PassLemmas.{RisesBelow}
use Rattle.lk_rise.proofs.rising.Rising.pass_each_link.Given as goal

abbrev pub invariant-loop-link : goal.invariant-loop-link
invariant-loop-link l = record {
  item : l.passage.item ≡ l.initial.passage.item;
  locks : l.passage.locks ≡ l.initial.passage.locks;
  is : IsPassage (setting l.self) l.passage;
  works : RisesBelow (setting l.self) l.links l.initial.passage.item l.initial.passage.locks l.link-index l.initial.table l.table l.initial.again.items l.again.items;
}
