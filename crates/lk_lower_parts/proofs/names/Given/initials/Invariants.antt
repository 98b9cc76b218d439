use Rattle.std.proofs.Common.{◌≡◌, ◌++◌, drop}
use Rattle.lk_lower_parts.specs.Givens.{sources_by}
use Rattle.lk_lower_parts.proofs.names.Given.initials.Given as goal

abbrev pub invariant-loop-source : goal.invariant-loop-source
invariant-loop-source l =
    sources_by l.self 0 l.self.whole.now.sources ≡ l.out.items ++ sources_by l.self l.source (drop l.source l.self.whole.now.sources)
