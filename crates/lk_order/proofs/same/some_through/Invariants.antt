use Rattle.std.proofs.Common.{◌≡◌, ℕ, Contains, take}
use Rattle.lk_facts.specs.declared.way.Way.TheVariants.{Through}
use Rattle.lk_links.specs.declared.link.Link.{Link}
use Rattle.lk_order.proofs.same.some_through.Given as goal

-- none so far is
abbrev pub invariant-loop-link : goal.invariant-loop-link
invariant-loop-link l = (link : Link) → Contains (take l.link-index l.links) link → (i : ℕ) → link.way ≡ Through i → ⊥
