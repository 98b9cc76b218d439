use Rattle.lk_parse_expr.proofs.reading.+nodes.Given as goal

abbrev pub decreases-read_expr : goal.decreases-read_expr
decreases-read_expr l = l.depth

abbrev pub decreases-read_type_name : goal.decreases-read_type_name
decreases-read_type_name l = l.depth

abbrev pub decreases-read_declarator : goal.decreases-read_declarator
decreases-read_declarator l = l.depth

abbrev pub decreases-read_member : goal.decreases-read_member
decreases-read_member l = l.depth

abbrev pub decreases-read_item : goal.decreases-read_item
decreases-read_item l = l.depth
