use Rattle.std.proofs.Common.{drop, ◌+◌}
use Rattle.lk_rules.proofs.Rests.{next_left, nothing_left}
use Rattle.lk_elaborate.proofs.Carried.{goes_same, goes_then}
use Rattle.lk_elaborate.proofs.Declaring.{all_left, none_left, one_less}
use Rattle.lk_elaborate.proofs.PuttingDeclared as put
use Rattle.lk_elaborate.proofs.declarations.declared.Goals as goal

pub loop-d-init : goal.loop-d-init
loop-d-init c =
    record {
      goes_on = goes_same c.args.walk.now;
      left = all_left c.args.walk.now c.args.node.now c.list-d-items.result.now c.no_inits-inits.result c.list-d-items.ensures c.no_inits-inits.ensures;
      put = put.all_left c.args.scope c.args.walk.now c.args.node.now c.list-d-items.result.now c.list-d-items.ensures;
    }

pub loop-d-preserved : goal.loop-d-preserved
loop-d-preserved c =
    let ds = c.list-d-items.result.now in
    record {
      goes_on = goes_then c.args.walk.now c.loop-d.walk c.init_declarator.new.walk c.loop-d.invariant.goes_on c.in_ok-init_declarator.ensures.goes_on;
      left =
          one_less c.args.walk.now c.loop-d.walk c.init_declarator.new.walk c.args.node.now (drop c.loop-d.d-index ds) (drop (c.loop-d.d-index + 1) ds)
          c.d-item.result c.loop-d.inits c.init_declarator.new.inits
          (next_left ds c.loop-d.d-index c.d-item.result c.loop-d-test.true c.d-item.is) c.in_ok-init_declarator.ensures.goes_on c.in_ok-init_declarator.ensures.makes c.loop-d.invariant.left;
      put =
          put.one_less c.args.scope c.args.walk.now c.loop-d.walk c.init_declarator.new.walk c.args.node.now (drop c.loop-d.d-index ds) (drop (c.loop-d.d-index + 1) ds) c.d-item.result
          (next_left ds c.loop-d.d-index c.d-item.result c.loop-d-test.true c.d-item.is) c.in_ok-init_declarator.ensures.goes_on c.in_ok-init_declarator.ensures.puts c.loop-d.invariant.put;
    }

pub returns-clause-makes : goal.returns-clause-makes
returns-clause-makes c =
    let ds = c.list-d-items.result.now in
    none_left c.args.walk.now c.loop-d.walk c.args.node.now (drop c.loop-d.d-index ds) c.loop-d.inits (nothing_left ds c.loop-d.d-index c.loop-d-test.false) c.loop-d.invariant.left

pub returns-clause-goes_on : goal.returns-clause-goes_on
returns-clause-goes_on c = c.loop-d.invariant.goes_on

pub returns-clause-puts : goal.returns-clause-puts
returns-clause-puts c =
    let ds = c.list-d-items.result.now in
    put.none_left c.args.scope c.args.walk.now c.loop-d.walk c.args.node.now (drop c.loop-d.d-index ds) (nothing_left ds c.loop-d.d-index c.loop-d-test.false) c.loop-d.invariant.put
