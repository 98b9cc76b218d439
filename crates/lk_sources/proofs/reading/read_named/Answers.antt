use Rattle.std.proofs.Common.{refl}
use Rattle.lk_sources.proofs.Both.{no_files}
use Rattle.lk_sources.proofs.reading.read_named.Goals as goal

pub returns-in-None-clause-ok : goal.returns-in-None-clause-ok
returns-in-None-clause-ok g c = rw (c.in-None.is, c.no_sources.ensures) (no_files c.args.most _ refl)
