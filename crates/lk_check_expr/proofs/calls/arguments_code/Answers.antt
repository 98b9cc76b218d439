use Rattle.std.proofs.Common.{◌≡◌, ◌∙◌, ◌<◌, ◌-◌, suc, length, drop, refl, sym, ap, subst, arith}
use Rattle.std.specs.Prelude.{slice_get}
use Rattle.std.proofs.lemmas.Option.{slice_get_read}
use Rattle.lk_base.specs.declared.code.Code.TheVariants.{Mismatch}
use Rattle.lk_typed.specs.Calls as spec
use Rattle.lk_typed.specs.Codes.{least_code}
use Rattle.lk_typed.specs.Typing.{if_so}
use Rattle.lk_typed.proofs.Verdicts.{both_least}
use Rattle.lk_check_expr.specs.Arguments.{passed_codes}
use Rattle.lk_check_expr.proofs.Arguments.{arguments_at, arguments_end, codes_from, passed_known, passed_somehow, same_passed, some_at}
use Rattle.lk_check_expr.proofs.calls.arguments_code.Goals as goal

pub loop-index-init : goal.loop-index-init
loop-index-init c = λ env ps xs by are.
    let table = c.args.types.now in
    let n = length c.args.arguments.now in
    let left = c.is_some-missing.ensures ∙ same_passed table c.at-behind.result (slice_get ps n) (c.at-behind.ensures table ps c.requires.ready by) in
    let ended = subst (codes_from env c.args.dots ps xs) (sym are.count) (arguments_end env c.args.dots ps xs) in
    c.code_if-code.ensures ∙ ap (λ b. least_code (if_so b Mismatch)) left ∙ sym (ap least_code ended)

pub passed_code-first-requires-clause-pass : goal.passed_code-first-requires-clause-pass
passed_code-first-requires-clause-pass c =
    let table = c.args.types.now in
    let somehow = passed_somehow table c.args.passes.now c.requires.passes in
    passed_known table c.at-pass.result (slice_get somehow.0 (c.loop-index.index - 1)) (c.at-pass.ensures table somehow.0 c.requires.ready somehow.1)

pub loop-index-preserved : goal.loop-index-preserved
loop-index-preserved c = λ env ps xs by are.
    let table = c.args.types.now in
    let dots = c.args.dots in
    let arguments = c.args.arguments.now in
    let i = c.loop-index.index - 1 in
    let a = c.index-arguments-index.result in
    let below : i < length arguments = omega (arith, c.loop-index-test.true, c.loop-index.auto.index) in
    let there = some_at xs i (omega (arith, below, are.count)) in
    let same = are.each i a there.0 (slice_get_read arguments (length arguments) i a refl below c.index-arguments-index.is) there.1 in
    let first = c.passed_code-first.ensures env (slice_get ps i) there.0 (c.at-pass.ensures table ps c.requires.ready by) same in
    let next : c.loop-index.index ≡ suc i = omega (arith, c.loop-index-test.true) in
    let rest = subst (λ n. c.loop-index.code ≡ least_code (spec.arguments_codes env dots (drop n ps) (drop n xs))) next (c.loop-index.invariant env ps xs by are) in
    both_least (passed_codes env dots (slice_get ps i) there.0) (spec.arguments_codes env dots (drop (suc i) ps) (drop (suc i) xs)) first rest c.lesser-code.ensures ∙
    sym (ap least_code (arguments_at env dots ps xs i there.0 there.1))

pub returns : goal.returns
returns c = λ env ps xs by are.
    let zero : c.loop-index.index ≡ 0 = omega (arith, c.loop-index-test.false) in
    subst (λ n. c.loop-index.code ≡ least_code (spec.arguments_codes env c.args.dots (drop n ps) (drop n xs))) zero (c.loop-index.invariant env ps xs by are)
