use Rattle.std.proofs.Common.{◌≡◌, ◌∙◌, sym, ap, subst, None}
use Rattle.lk_typed.specs.Codes.{least_code}
use Rattle.lk_typed.proofs.Verdicts.{then_each}
use Rattle.lk_check_expr.specs.Arguments.{IsPassedAt, further_codes, passed_codes}
use Rattle.lk_check_expr.proofs.Arguments.{passed_some, passed_none}
use Rattle.lk_check_expr.proofs.calls.passed_code.Goals as goal

pub returns-in-Some : goal.returns-in-Some
returns-in-Some c = λ env p x at is.
    let table = c.args.types.now in
    passed_some table env c.args.dots c.in-Some.pass p x (subst (λ o. IsPassedAt table o p) c.in-Some.is at) (λ q pass. c.argument_code.ensures env q x pass is)

pub returns-then-dots : goal.returns-then-dots
returns-then-dots c = λ env p x at is.
    let table = c.args.types.now in
    let told = then_each table c.args.a.now.typing x.typing (λ e. c.further_code.result ≡ least_code (further_codes e)) is.typing c.further_code.ensures in
    passed_none table env c.args.dots p x (subst (λ o. IsPassedAt table o p) c.in-None.is at)
    (told ∙ ap (λ dots. least_code (passed_codes env dots None x)) (sym c.if-dots.true))

pub returns-else-dots : goal.returns-else-dots
returns-else-dots c = λ env p x at is.
    let table = c.args.types.now in
    passed_none table env c.args.dots p x (subst (λ o. IsPassedAt table o p) c.in-None.is at)
    (ap (λ dots. least_code (passed_codes env dots None x)) (sym c.if-dots.false))
