use Rattle.std.proofs.Common.{◌<◌, length, subst, sym, arith}
use Rattle.lk_facts.specs.Origins.{IsSetBelow}
use Rattle.lk_facts.proofs.Sets.{All-read}
use Rattle.lk_facts.proofs.held.Held.keep.Goals as goal

pub returns-clause-in_range : goal.returns-clause-in_range
returns-clause-in_range c =
    let within : c.args.p < length c.self.inside.at.items = subst (λ held. c.args.p < length held.at) (sym c.self.view_is) c.requires in
    rw (← c.self.view_is) (All-read (IsSetBelow _) _ _ _ c.self.invariant.keep.each (omega arith) c.index.ensures)
