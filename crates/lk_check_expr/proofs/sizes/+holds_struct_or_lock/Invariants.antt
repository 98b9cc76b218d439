use Rattle.lk_check_expr.proofs.sizes.+holds_struct_or_lock.Given as goal

abbrev pub decreases-holds_struct_or_lock : goal.decreases-holds_struct_or_lock
decreases-holds_struct_or_lock l = l.t
