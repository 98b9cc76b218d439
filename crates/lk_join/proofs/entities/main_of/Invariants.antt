use Rattle.lk_join.proofs.Starting.{HasNoMain}
use Rattle.lk_join.proofs.entities.main_of.Given as goal

-- the function isn't among the first entities
abbrev pub invariant-loop-number : goal.invariant-loop-number
invariant-loop-number l = HasNoMain l.entities l.number
