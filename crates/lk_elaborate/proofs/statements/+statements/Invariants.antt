use Rattle.std.proofs.Common.{drop}
use Rattle.lk_elaborator.specs.Leading.{GoesOn}
use Rattle.lk_elaborate.proofs.Making.{AreLeft}
use Rattle.lk_elaborate.proofs.PuttingStatements.{AreItemsLeft}
use Rattle.lk_elaborate.proofs.statements.+statements.Given as goal

abbrev pub invariant-block_items-loop-item : goal.invariant-block_items-loop-item
invariant-block_items-loop-item l =
    record {
      goes_on : GoesOn l.initial.walk l.walk;
      left : AreLeft l.initial.walk l.walk l.around l.items (drop l.item-index l.items) l.made;
      put : AreItemsLeft l.initial.walk l.walk l.items (drop l.item-index l.items);
    }
