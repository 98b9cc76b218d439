use Rattle.std.proofs.Common.{◌∙◌, sym, arith}
use Rattle.lk_typed.specs.Meaning.{meaning}
use Rattle.lk_link.proofs.LibraryRows.{other_length, passed_stop, passed_on}
use Rattle.lk_link.proofs.library_types.are_parameters.Goals as goal

pub returns-then-ts-parameters : goal.returns-then-ts-parameters
returns-then-ts-parameters c = sym (other_length (meaning c.args.types.now) c.args.ts.now c.args.parameters.now c.if-ts-parameters.true)

pub returns-then-not-is_parameter : goal.returns-then-not-is_parameter
returns-then-not-is_parameter c =
    sym (c.loop-place.invariant ∙
    passed_stop (meaning c.args.types.now) c.args.ts.now c.args.parameters.now c.loop-place.place c.index-ts-place.result _ c.loop-place-test.true
    (omega (arith, c.if-ts-parameters.false, c.loop-place-test.true)) c.index-ts-place.is (sym c.is_parameter.ensures ∙ c.if-not-is_parameter.true))

pub loop-place-preserved : goal.loop-place-preserved
loop-place-preserved c =
    c.loop-place.invariant ∙
    passed_on (meaning c.args.types.now) c.args.ts.now c.args.parameters.now c.loop-place.place c.index-ts-place.result _ c.loop-place-test.true
    (omega (arith, c.if-ts-parameters.false, c.loop-place-test.true)) c.index-ts-place.is (sym c.is_parameter.ensures ∙ c.if-not-is_parameter.false)
