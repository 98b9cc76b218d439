use Rattle.std.proofs.Common.{◌∙◌, sym}
use Rattle.lk_checker.proofs.Telling.{tells_behind, tells_before}
use Rattle.lk_checker.proofs.checker.Checker.keep_code.Goals as goal

pub returns-then-not-comes_first : goal.returns-then-not-comes_first
returns-then-not-comes_first c =
    tells_behind c.args.self.now c.args.at c.args.code c.args.name.now (sym (c.comes_first.ensures c.args.name.now) ∙ c.if-not-comes_first.true)

pub returns : goal.returns
returns c =
    tells_before c.args.self.now c.args.at c.args.code c.args.name.now c.in_ok-name.name c.in_ok-name.ensures (sym (c.comes_first.ensures c.args.name.now) ∙ c.if-not-comes_first.false)
