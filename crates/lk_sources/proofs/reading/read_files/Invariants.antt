use Rattle.std.proofs.Common.{◌≡◌, ◌≤◌, map, take}
use Rattle.std.specs.Option.{ForSome}
use Rattle.lk_sources.specs.Readable.{AreShort}
use Rattle.lk_sources.specs.Reading.{AreRead}
use Rattle.lk_sources.proofs.reading.read_files.Given as goal

-- the files so far are read
abbrev pub invariant-loop-name : goal.invariant-loop-name
invariant-loop-name g l =
    record {
      calm : g.F.Shelf.faults l.shelf ≡ g.F.Shelf.faults l.initial.shelf;
      held : g.F.Shelf.held l.shelf ≡ g.F.Shelf.held l.initial.shelf;
      named : map (λ s. s.name) l.sources.items ≡ map (λ name. name.now) (take l.name-index l.names);
      short : AreShort l.most l.sources.items;
      within : l.left ≤ l.most;
      read : ForSome (g.F.Shelf.held l.initial.shelf) (λ held. AreRead held l.most (map (λ name. name.now) (take l.name-index l.names)) l.sources.items l.left);
    }
