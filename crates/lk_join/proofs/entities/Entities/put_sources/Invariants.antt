use Rattle.lk_join.specs.Entities.{AreEntityRows, AreNamed}
use Rattle.lk_join.proofs.entities.Entities.put_sources.Given as goal

-- the entities of the first sources are put
abbrev pub invariant-loop-source : goal.invariant-loop-source
invariant-loop-source l = AreNamed l.self × AreEntityRows l.units l.types l.rows.items l.self.list l.source
