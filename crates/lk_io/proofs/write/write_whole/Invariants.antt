use Rattle.std.proofs.Common.{◌≡◌, length}
use Rattle.lk_io.proofs.Writing.{Went}
use Rattle.lk_io.proofs.write.write_whole.Given as goal

abbrev pub invariant-loop-rest : goal.invariant-loop-rest
invariant-loop-rest g l =
    Went (g.S.Sink.gone l.initial.sink) (g.S.Sink.gone l.sink) l.bytes l.rest × (g.S.Sink.faults l.sink ≡ g.S.Sink.faults l.initial.sink)

abbrev pub decreases-loop-rest : goal.decreases-loop-rest
decreases-loop-rest g l = length l.rest
