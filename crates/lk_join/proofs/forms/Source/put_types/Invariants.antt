use Rattle.std.proofs.Common.{◌≡◌, length}
use Rattle.lk_join.specs.Completing.{GivesMembers}
use Rattle.lk_join.specs.Large.{IsJoining}
use Rattle.lk_join.proofs.forms.Source.put_types.Given as goal

-- the first types are put
abbrev pub invariant-loop-t : goal.invariant-loop-t
invariant-loop-t l =
    GivesMembers l.self.types.now l.row.items l.self.structs.now l.fn.table l.table × IsJoining l.self.types.now l.row.items l.self.structs.now l.table × (length l.row.items ≡ l.t)
