use Rattle.std.proofs.Common.{take}
use Rattle.lk_join.specs.Agreeing.{FitFrom}
use Rattle.lk_join.specs.Entities.{AreNamed, ArePut}
use Rattle.lk_join.proofs.entities.Entities.put_source.Given as goal

-- the first entities are put, and those behind them fit
abbrev pub invariant-loop-entity : goal.invariant-loop-entity
invariant-loop-entity l = AreNamed l.self × ArePut l.source l.row l.fn.self.list (take l.entity-index l.entities) l.numbers.items l.self.list × FitFrom l.self.list l.entities l.entity-index
