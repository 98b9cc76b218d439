use Rattle.lk_join.specs.Completing.{AreCompleted, GivesMembers}
use Rattle.lk_join.specs.Large.{IsJoining}
use Rattle.lk_join.proofs.forms.Source.complete_all.Given as goal

-- the first structs are completed
abbrev pub invariant-loop-s : goal.invariant-loop-s
invariant-loop-s l =
    GivesMembers l.self.types.now l.row l.self.structs.now l.fn.table l.table × AreCompleted l.self.types.now l.self.structs.now l.table l.s × IsJoining l.self.types.now l.row
    l.self.structs.now l.table
