use Rattle.std.proofs.Common.{drop}
use Rattle.lk_check_unit.specs.Bodies.{Stays}
use Rattle.lk_check_unit.proofs.Items.{AreLeft}
use Rattle.lk_check_unit.proofs.statements.+statements.Given as goal

abbrev pub invariant-block_items-loop-item : goal.invariant-block_items-loop-item
invariant-block_items-loop-item l =
    record {
      stays : Stays l.initial.checker l.checker l.initial.body l.body;
      left : AreLeft l.initial.checker l.checker l.initial.body l.body l.items (drop l.item-index l.items);
    }
