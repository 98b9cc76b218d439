use Rattle.std.proofs.Common.{drop}
use Rattle.lk_sources.proofs.SplitsUpto.{Upto}
use Rattle.lk_sources.proofs.splitting.split_all.Given as goal

abbrev pub invariant-loop-source : goal.invariant-loop-source
invariant-loop-source l = Upto l.fn.files l.sources (drop l.source-index l.sources) l.files l.lists.items l.word
