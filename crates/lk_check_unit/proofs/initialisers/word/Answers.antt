use Rattle.std.proofs.Common.{sym, subst}
use Rattle.lk_check_unit.specs.Initialising.{WalksExpr}
use Rattle.lk_check_unit.proofs.Initialised.{word_walked}
use Rattle.lk_check_unit.proofs.Staying.{grows_told}
use Rattle.lk_check_unit.proofs.initialisers.word.Goals as goal

pub returns-clause-grows : goal.returns-clause-grows
returns-clause-grows c = grows_told c.args.checker.now c.keep.new.self c.at_expression.result _ c.requires.sound c.in_ok-keep.ensures

pub returns-clause-walks : goal.returns-clause-walks
returns-clause-walks c =
    subst (WalksExpr c.args.target.now c.args.e.now c.args.checker.now c.keep.new.self) (sym c.is_fit.ensures)
    (word_walked c.args.target.now c.args.e.now c.args.ty c.args.checker.now c.keep.new.self c.at_expression.result c.word_code-code.result c.requires.sound c.requires.word
    c.at_expression.ensures.spot c.at_expression.ensures.ordinal c.word_code-code.ensures c.in_ok-keep.ensures)
