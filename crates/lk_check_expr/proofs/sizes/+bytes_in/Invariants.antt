use Rattle.lk_check_expr.proofs.sizes.+bytes_in.Given as goal

abbrev pub decreases-bytes_in : goal.decreases-bytes_in
decreases-bytes_in l = l.t
