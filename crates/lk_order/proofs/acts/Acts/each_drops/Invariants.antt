use Rattle.std.proofs.Common.{Contains, take}
use Rattle.lk_links.specs.declared.link.Link.{Link}
use Rattle.lk_order.specs.Acquiring.{DropsWhereItRuns}
use Rattle.lk_order.specs.Acts.{basis_in, linear_in}
use Rattle.lk_order.proofs.acts.Acts.each_drops.Given as goal

-- so it is with the links so far
abbrev pub invariant-loop-link : goal.invariant-loop-link
invariant-loop-link l = (link : Link) → Contains (take l.link-index l.link-items) link → DropsWhereItRuns (basis_in l.self) (linear_in l.self) l.x link
