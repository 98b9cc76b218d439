use Rattle.std.proofs.Common.{◌≡◌, ◌+◌, ◌<◌, ◌∙◌, suc, length, subst, sym, arith}
use Rattle.std.proofs.lemmas.Option.{slice_get_within}
use Rattle.lk_types.specs.Building.{IsTable}
use Rattle.lk_flow.specs.Counting.{ParameterOf}
use Rattle.lk_flow.proofs.Counting.{parameter_next, upto_all, upto_more, upto_none}
use Rattle.lk_flow.proofs.FieldLists.{few_steps}
use Rattle.lk_flow.proofs.RowLists.{parameter_at}
use Rattle.lk_flow.proofs.calls.put_passed.Goals as goal

pub loop-k-init : goal.loop-k-init
loop-k-init c = upto_none c.args.labels.now.names (ParameterOf c.args.points.now c.args.g c.args.site) c.args.found.now

pub loop-k-preserved : goal.loop-k-preserved
loop-k-preserved c =
    let program = c.args.points.now in
    let names = c.args.labels.now.names in
    let g = c.args.g in
    let i = c.args.site in
    let k = c.loop-k.k in
    let new = c.put_parameter.new.found in
    let parameters = c.parameters-parameters.result.now in
    let within : k < length parameters = omega (arith, c.loop-k-test.true, c.min-k-end.ensures) in
    let next : k + 1 ≡ suc k = omega arith in
    upto_more names (ParameterOf program g i) k c.args.found.now c.loop-k.found new c.loop-k.invariant
    (parameter_next program names g i k (k + 1) parameters _ c.loop-k.found new c.parameters-parameters.ensures.value within next c.in_ok-put_parameter.ensures)

pub returns : goal.returns
returns c =
    let program = c.args.points.now in
    let names = c.args.labels.now.names in
    let g = c.args.g in
    let parameters = c.parameters-parameters.result.now in
    let good = subst IsTable c.types.ensures c.is_table.ensures in
    upto_all names (ParameterOf program g c.args.site) c.loop-k.k c.args.found.now c.loop-k.found
    (λ k u v m is. (let few = few_steps program.types good is.1.1.0.node is.1.0.node (suc k) is.1.1.2.steps in let within = slice_get_within parameters k is.2.1.0 (sym (parameter_at program names g k parameters c.parameters-parameters.ensures.value) ∙ is.2.1.1) in omega (arith, few, within, c.loop-k-test.false, c.min-k-end.ensures))) c.loop-k.invariant
