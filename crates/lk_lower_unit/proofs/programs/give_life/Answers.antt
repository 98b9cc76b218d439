use Rattle.std.proofs.Common.{arith, rules}
use Rattle.lk_lower_unit.proofs.Living.{lived_all}
use Rattle.lk_lower_unit.proofs.programs.give_life.Goals as goal

pub returns : goal.returns
returns c = record {
  live = c.in_ok-live.live.items;
  long = search rules;
  are = search rules;
  said = lived_all c.in_ok-live.live.items c.loop-p.points.items _ c.loop-p.p (omega (arith, c.loop-p.invariant.many, c.loop-p-test.false)) c.loop-p.invariant.lived;
}
