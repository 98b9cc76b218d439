use Rattle.std.proofs.Common.{refl}
use Rattle.lk_tree.specs.declared.expression.DeclaratorForm.TheOpen.{ExprForm-F}
use Rattle.lk_typed.specs.Words.{number_rule}
use Rattle.lk_found.proofs.Rules.{plainly}
use Rattle.lk_checker.proofs.checker.Checker.settle_number.Goals as goal

pub returns : goal.returns
returns c = λ env behind plain.
    let table = c.args.self.now.types in
    c.in_ok-found.ensures env behind (ExprForm-F.Number c.args.kind c.args.n) plain
    (plainly table c.number.result c.plain-ruled.result (number_rule c.args.kind c.args.n) c.plain-ruled.ensures.verdict c.plain-ruled.ensures.address (c.number.ensures table c.requires.ready) refl)
    (c.plain-look.ensures env)
