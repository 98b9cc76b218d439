use Rattle.lk_typed.proofs.structs.+is_complete.Given as goal

abbrev pub decreases-is_complete : goal.decreases-is_complete
decreases-is_complete l = l.t
