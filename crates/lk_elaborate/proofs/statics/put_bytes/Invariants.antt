use Rattle.std.proofs.Common.{drop}
use Rattle.lk_elab_init.specs.Giving.{Puts}
use Rattle.lk_elaborate.proofs.MakingStatics.{BytesPut}
use Rattle.lk_elaborate.proofs.statics.put_bytes.Given as goal

-- the bytes up to this one are put
abbrev pub invariant-loop-byte : goal.invariant-loop-byte
invariant-loop-byte l = Puts l.initial.out.items l.out.items (BytesPut l.elements l.path l.place l.bytes (drop l.byte-index l.bytes))
