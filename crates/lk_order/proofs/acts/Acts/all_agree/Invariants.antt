use Rattle.std.proofs.Common.{take, Contains}
use Rattle.lk_links.specs.declared.link.Link.{Link}
use Rattle.lk_order.specs.Acts.{basis_in, linear_in}
use Rattle.lk_order.specs.Asking.{Agrees}
use Rattle.lk_order.proofs.acts.Acts.all_agree.Given as goal

-- the links so far agree
abbrev pub invariant-loop-link : goal.invariant-loop-link
invariant-loop-link l =
    (link : Link) → Contains (take l.link-index l.links) link → Agrees (basis_in l.self) (linear_in l.self) l.known.keys l.goal link
