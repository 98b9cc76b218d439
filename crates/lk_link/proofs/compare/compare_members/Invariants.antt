use Rattle.std.proofs.Common.{take, true}
use Rattle.lk_link.specs.Comparing.{IsAnsweredHere, AreOneMembersHere}
use Rattle.lk_link.proofs.compare.compare_members.Given as goal

abbrev pub invariant-loop-place : goal.invariant-loop-place
invariant-loop-place l = IsAnsweredHere l.first l.second l.initial.pairs l.pairs (λ ps. AreOneMembersHere l.first l.second ps (take l.place l.members) (take l.place l.others)) true
