use Rattle.std.proofs.Common.{◌≡◌, ◌∙◌, ap, subst}
use Rattle.lk_base.specs.declared.kind.Kind.TheVariants as kind
use Rattle.lk_typed.specs.Assignments.{given_codes}
use Rattle.lk_typed.specs.Codes.{least_code}
use Rattle.lk_typed.specs.Meaning.{meaning, meaning_of}
use Rattle.lk_typed.proofs.FirstTypes.{kind_means}
use Rattle.lk_typed.proofs.Verdicts.{then_each}
use Rattle.lk_check_expr.specs.Arguments.{IsKnownPassing, null_codes, routine_codes}
use Rattle.lk_check_expr.specs.Functions.{IsPassing}
use Rattle.lk_check_expr.proofs.Arguments.{converted_told, null_told, routine_told, size_told}
use Rattle.lk_check_expr.proofs.calls.argument_code.Goals as goal

pub given_code-requires-clause-target : goal.given_code-requires-clause-target
given_code-requires-clause-target c = subst (IsKnownPassing c.args.types.now) c.in-Converted.is c.requires.pass

pub returns-in-Converted : goal.returns-in-Converted
returns-in-Converted c = λ env p x pass is.
    let table = c.args.types.now in
    converted_told table env c.in-Converted.target p x (subst (λ q. IsPassing table q p) c.in-Converted.is pass)
    (then_each table c.args.a.now.typing x.typing (λ e. c.given_code.result ≡ least_code (given_codes (meaning_of table c.in-Converted.target) e)) is.typing c.given_code.ensures)

pub returns-in-NullFor : goal.returns-in-NullFor
returns-in-NullFor c = λ env p x pass is.
    let table = c.args.types.now in
    null_told table env c.in-NullFor.code p x (subst (λ q. IsPassing table q p) c.in-NullFor.is pass)
    (then_each table c.args.a.now.typing x.typing (λ e. c.null_code.result ≡ least_code (null_codes c.in-NullFor.code e)) is.typing c.null_code.ensures)

pub returns-in-Routine : goal.returns-in-Routine
returns-in-Routine c = λ env p x pass is.
    routine_told c.args.types.now env c.args.a.now p x (subst (λ q. IsPassing c.args.types.now q p) c.in-Routine.is pass) is
    (then_each c.args.types.now c.args.a.now.typing x.typing (λ e. c.routine_code.result ≡ least_code (routine_codes c.args.a.now.look.is_routine e)) is.typing c.routine_code.ensures)

pub returns-in-Size : goal.returns-in-Size
returns-in-Size c = λ env p x pass is.
    let table = c.args.types.now in
    size_told table env p x (subst (λ q. IsPassing table q p) c.in-Size.is pass)
    (then_each table c.args.a.now.typing x.typing (λ e. c.given_code-in-Size.result ≡ least_code (given_codes (meaning table 10) e)) is.typing c.given_code-in-Size.ensures ∙
    ap (λ t. least_code (given_codes t x.typing)) (kind_means table c.requires.ready kind.ULong))
