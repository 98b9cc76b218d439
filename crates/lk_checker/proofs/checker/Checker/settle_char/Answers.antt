use Rattle.std.proofs.Common.{refl, subst}
use Rattle.std.specs.Int.{w32}
use Rattle.std.proofs.lemmas.Int.{to_z-of_z}
use Rattle.lk_tree.specs.declared.expression.DeclaratorForm.TheOpen.{ExprForm-F}
use Rattle.lk_typed.specs.Typings.{IsVerdict}
use Rattle.lk_typed.specs.Words.{char_rule}
use Rattle.lk_found.proofs.Rules.{plainly}
use Rattle.lk_checker.proofs.checker.Checker.settle_char.Goals as goal

pub returns : goal.returns
returns c = λ env behind plain.
    let table = c.args.self.now.types in
    let is = subst (λ n. IsVerdict table c.character.result (char_rule n)) (to_z-of_z w32 c.args.n c.ranges.n) (c.character.ensures table c.requires.ready) in
    c.in_ok-found.ensures env behind (ExprForm-F.Char c.args.n) plain
    (plainly table c.character.result c.plain-ruled.result (char_rule c.args.n) c.plain-ruled.ensures.verdict c.plain-ruled.ensures.address is refl)
    (c.plain-look.ensures env)
