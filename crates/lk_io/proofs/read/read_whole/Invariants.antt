use Rattle.std.proofs.Common.{◌≡◌, ◌-◌, ◌≤◌, vec_len}
use Rattle.std.specs.Option.{ForSome}
use Rattle.lk_io.proofs.Reading.{HasRead}
use Rattle.lk_io.proofs.read.read_whole.Given as goal

abbrev pub invariant-loop-bytes : goal.invariant-loop-bytes
invariant-loop-bytes g l = record {
  read : ForSome (g.F.Shelf.held l.initial.shelf) (λ files. HasRead (files l.name) l.bytes.items);
  within : vec_len l.bytes ≤ l.limit;
  held : g.F.Shelf.held l.shelf ≡ g.F.Shelf.held l.initial.shelf;
  calm : g.F.Shelf.faults l.shelf ≡ g.F.Shelf.faults l.initial.shelf;
  kept : g.F.Shelf.bad l.shelf ≡ g.F.Shelf.bad l.initial.shelf;
}

abbrev pub decreases-loop-bytes : goal.decreases-loop-bytes
decreases-loop-bytes g l = l.limit - vec_len l.bytes
