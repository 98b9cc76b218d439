use Rattle.std.proofs.Common.{All, take}
use Rattle.lk_types.specs.declared.member.StructMember.{StructMember}
use Rattle.lk_join.specs.Completing.{GivesMembers, IsHeld}
use Rattle.lk_join.specs.Large.{IsJoining, KeepsOpen, struct_size}
use Rattle.lk_join.proofs.forms.Source.+complete.Given as goal

abbrev pub decreases-complete : goal.decreases-complete
decreases-complete l = l.steps

-- the structs of the first members are completed, and no struct as large as this one
abbrev pub invariant-loop-member : goal.invariant-loop-member
invariant-loop-member l =
    GivesMembers l.self.types.now l.row l.self.structs.now l.fn.table l.table × IsJoining l.self.types.now l.row l.self.structs.now l.table
    × KeepsOpen l.self.types.now l.self.structs.now (struct_size l.self.types.now l.s).steps l.fn.table l.table
    × All (λ (member : StructMember). IsHeld l.self.types.now l.self.structs.now l.table member.ty) (take l.member-index l.member-items)
