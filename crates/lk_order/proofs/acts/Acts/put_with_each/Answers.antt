use Rattle.std.proofs.Common.{◌∙◌}
use Rattle.lk_order.specs.Acts.{basis_in}
use Rattle.lk_order.specs.Finding.{AreTwoLocks}
use Rattle.lk_order.proofs.FindingLemmas.{puts_each_all, puts_each_more, puts_each_none}
use Rattle.lk_order.proofs.acts.Acts.put_with_each.Goals as goal

pub loop-r-init : goal.loop-r-init
loop-r-init c = puts_each_none (AreTwoLocks (basis_in c.args.self.now) c.args.q) c.args.places.now c.args.rows.now

pub put_two-requires : goal.put_two-requires
put_two-requires c = record { size = c.loop-r.invariant.size ∙ c.requires.size }

pub loop-r-preserved : goal.loop-r-preserved
loop-r-preserved c =
    puts_each_more (AreTwoLocks (basis_in c.args.self.now) c.args.q) c.args.places.now c.loop-r.r-index 0 c.args.rows.now c.loop-r.rows c.put_two.new.rows c.loop-r-test.true c.loop-r.invariant c.put_two.ensures

pub returns : goal.returns
returns c = puts_each_all (AreTwoLocks (basis_in c.args.self.now) c.args.q) c.args.places.now c.loop-r.r-index c.args.rows.now c.loop-r.rows c.loop-r-test.false c.loop-r.invariant
