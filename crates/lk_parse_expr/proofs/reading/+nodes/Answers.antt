use Rattle.std.proofs.Common.{rules, arith}
use Rattle.lk_parse_expr.proofs.Levels.{expr_inside, type_name_inside, declarator_inside, member_inside, item_inside, no_expr, no_type_name, no_declarator, no_member, no_item}
use Rattle.lk_parse_expr.proofs.reading.+nodes.Goals as goal

pub read_expr-returns-then-depth-eq0 : goal.read_expr-returns-then-depth-eq0
read_expr-returns-then-depth-eq0 t c = λ never. no_expr c.args.depth c.args.level c.args.cursor.now _ _ _ (omega arith) c.peek.ensures c.begins_expr.ensures (c.exhausted.ensures never)

pub read_expr-returns : goal.read_expr-returns
read_expr-returns t c = rw (expr_inside c.args.depth c.args.level c.args.cursor.now (omega arith)) (search rules)

pub read_type_name-returns-then-depth-eq0 : goal.read_type_name-returns-then-depth-eq0
read_type_name-returns-then-depth-eq0 t c = λ never. no_type_name c.args.depth c.args.cursor.now _ _ (omega arith) c.continues_specifiers.ensures (c.exhausted.ensures never)

pub read_type_name-returns : goal.read_type_name-returns
read_type_name-returns t c = rw (type_name_inside c.args.depth c.args.cursor.now (omega arith)) (search rules)

pub read_declarator-returns-then-depth-eq0 : goal.read_declarator-returns-then-depth-eq0
read_declarator-returns-then-depth-eq0 t c = λ never. no_declarator c.args.depth c.args.naming c.args.cursor.now _ _ (omega arith) c.begins_declarator.ensures (c.exhausted.ensures never)

pub read_declarator-returns : goal.read_declarator-returns
read_declarator-returns t c = rw (declarator_inside c.args.depth c.args.naming c.args.cursor.now (omega arith)) (search rules)

pub read_member-returns-then-depth-eq0 : goal.read_member-returns-then-depth-eq0
read_member-returns-then-depth-eq0 t c = λ never. no_member c.args.depth c.args.cursor.now _ _ (omega arith) c.continues_specifiers.ensures (c.exhausted.ensures never)

pub read_member-returns : goal.read_member-returns
read_member-returns t c = rw (member_inside c.args.depth c.args.cursor.now (omega arith)) (search rules)

pub read_item-returns-then-depth-eq0 : goal.read_item-returns-then-depth-eq0
read_item-returns-then-depth-eq0 t c = λ never. no_item c.args.depth c.args.cursor.now _ _ _ (omega arith) c.peek.ensures c.is_word.ensures (c.exhausted.ensures never)

pub read_item-returns : goal.read_item-returns
read_item-returns t c = rw (item_inside c.args.depth c.args.cursor.now (omega arith)) (search rules)
