use Rattle.std.proofs.Common.{◌≡◌, false, Contains, take}
use Rattle.lk_links.specs.declared.link.Link.{Link}
use Rattle.lk_order.proofs.acts.Acts.runs_some.Given as goal

-- the links so far start threads
abbrev pub invariant-loop-link : goal.invariant-loop-link
invariant-loop-link l = (link : Link) → Contains (take l.link-index l.link-items) link → link.starts ≡ false → ⊥
