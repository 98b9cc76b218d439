use Rattle.std.proofs.Common.{◌≡◌, ◌<◌, ℕ, length}
use Rattle.lk_facts.specs.Facts.{basis_of}
use Rattle.lk_links.specs.Links.{AreLinksAt, links_at}
use Rattle.lk_links.proofs.links.Links.new.Given as goal

abbrev pub invariant-loop-point : goal.invariant-loop-point
invariant-loop-point l = record {
  long : length l.at.items ≡ l.point;
  each : (q : ℕ) → q < l.point → AreLinksAt (basis_of l.facts) q (links_at l.at.items q);
}
