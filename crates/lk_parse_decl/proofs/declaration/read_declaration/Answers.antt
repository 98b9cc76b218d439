use Rattle.std.proofs.Common.{rules, arith}
use Rattle.lk_parse_decl.proofs.Levels.{declaration_inside, no_declaration}
use Rattle.lk_parse_decl.proofs.declaration.read_declaration.Goals as goal

pub returns-then-depth-eq0 : goal.returns-then-depth-eq0
returns-then-depth-eq0 c = λ never. no_declaration c.args.depth c.args.cursor.now _ _ (omega arith) (c.exhausted.ensures never) c.continues_specifiers.ensures

pub returns : goal.returns
returns c = rw (declaration_inside c.args.depth c.args.cursor.now (omega arith)) (search rules)
