use Rattle.std.proofs.Common.{refl, sym, ap}
use Rattle.std.specs.Prelude.{option_map}
use Rattle.lk_tree.specs.declared.expression.DeclaratorForm.TheOpen.{ExprForm-F}
use Rattle.lk_typed.specs.Expressions.{AWord, breach_at}
use Rattle.lk_found.specs.Judging.{code_in}
use Rattle.lk_checker.proofs.Settling.{settled}
use Rattle.lk_checker.proofs.checker.Checker.settle_word.Goals as goal

pub returns : goal.returns
returns c = λ env behind is_in is_behind role other word.
    let ruled = c.word_said-ruled.result.0 in
    let look = c.word_said-ruled.result.1 in
    settled c.args.self.now c.tell_word.new.self c.args.e.now env behind (ExprForm-F.Word c.args.name.now) ruled look c.at_expr-at.result
    (option_map (breach_at (AWord c.args.name.now)) (code_in ruled.verdict)) (record { typing = c.in_ok-typing.typing; address = ruled.address; look = look }) c.requires c.at_expr-at.ensures
    c.in_ok-typing.ensures.tells (ap (λ w. option_map (breach_at w) (code_in ruled.verdict)) (sym word)) c.in_ok-typing.ensures.typed refl refl
    (c.word_said-ruled.ensures.ruled behind is_behind other) (c.word_said-ruled.ensures.look env is_in role)
