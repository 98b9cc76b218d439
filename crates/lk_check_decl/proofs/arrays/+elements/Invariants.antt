use Rattle.lk_check_decl.proofs.arrays.+elements.Given as goal

abbrev pub decreases-elements : goal.decreases-elements
decreases-elements l = l.t
