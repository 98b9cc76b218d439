use Rattle.std.proofs.Common.{◌∙◌}
use Rattle.lk_order.specs.Acts.{basis_in}
use Rattle.lk_order.specs.Finding.{AreTwoLocks, IsGivenBy}
use Rattle.lk_order.proofs.FindingLemmas.{puts_each_all, puts_each_more, puts_each_none}
use Rattle.lk_order.proofs.acts.Acts.put_each.Goals as goal

pub loop-q-init : goal.loop-q-init
loop-q-init c = puts_each_none (λ q. IsGivenBy (AreTwoLocks (basis_in c.args.self.now) q) c.args.wanted.now) c.args.held.now c.args.rows.now

pub put_with_each-requires : goal.put_with_each-requires
put_with_each-requires c = record { size = c.loop-q.invariant.size ∙ c.requires.size }

pub loop-q-preserved : goal.loop-q-preserved
loop-q-preserved c =
    puts_each_more (λ q. IsGivenBy (AreTwoLocks (basis_in c.args.self.now) q) c.args.wanted.now) c.args.held.now c.loop-q.q-index 0 c.args.rows.now c.loop-q.rows c.put_with_each.new.rows
    c.loop-q-test.true c.loop-q.invariant c.put_with_each.ensures

pub returns : goal.returns
returns c = puts_each_all (λ q. IsGivenBy (AreTwoLocks (basis_in c.args.self.now) q) c.args.wanted.now) c.args.held.now c.loop-q.q-index c.args.rows.now c.loop-q.rows c.loop-q-test.false c.loop-q.invariant
