use Rattle.std.proofs.Common.{◌≡◌, ◌+◌, ◌≤◌, length}
use Rattle.lk_sources.specs.Externs.{listed, listed_from, lines}
use Rattle.lk_sources.proofs.Lines.{before}
use Rattle.lk_sources.proofs.externs.names_in.Given as goal

-- the names so far stand before what is left
abbrev pub invariant-loop-names : goal.invariant-loop-names
invariant-loop-names l =
    record {
      so_far : listed l.text ≡ before l.names.items (listed_from l.number (lines l.rest));
      fits : l.number + length l.rest ≤ 65537;
    }

abbrev pub decreases-loop-names : goal.decreases-loop-names
decreases-loop-names l = length l.rest
