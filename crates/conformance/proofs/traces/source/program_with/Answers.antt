use Rattle.std.proofs.Common.{sym, subst}
use Rattle.lk_sources.specs.Readable.{AreFew}
use Rattle.conformance.proofs.traces.source.program_with.Goals as goal

pub whole_of-requires-clause-few : goal.whole_of-requires-clause-few
whole_of-requires-clause-few c = subst AreFew (sym c.in-Ok.ensures.many) c.requires.few
