use Rattle.std.proofs.Common.{◌≡◌, ◌+◌, ◌<◌, suc, length, get_or, subst, arith}
use Rattle.std.proofs.lemmas.Option.{slice_get-get_or, slice_get_within}
use Rattle.lk_facts.specs.EdgeRules.{Of, Sub, target, value}
use Rattle.lk_facts.specs.declared.edge.Mark.TheVariants.{Plain}
use Rattle.lk_types.specs.Building.{IsTable}
use Rattle.lk_types.specs.declared.node.Sel.TheVariants.{Field}
use Rattle.lk_flow.specs.Counting.{ArgumentThrough}
use Rattle.lk_flow.specs.Growing.{Adds, Joins}
use Rattle.lk_flow.proofs.Counting.{through_all, through_more, upto_all, upto_more, upto_none}
use Rattle.lk_flow.proofs.FieldLists.{few_steps}
use Rattle.lk_flow.proofs.calls.put_pointer_arguments.Goals as goal

pub loop-k-init : goal.loop-k-init
loop-k-init c = upto_none c.args.labels.now.names (ArgumentThrough c.args.points.now c.args.a c.args.args.now) c.args.found.now

pub loop-k-preserved : goal.loop-k-preserved
loop-k-preserved c =
    let program = c.args.points.now in
    let names = c.args.labels.now.names in
    let a = c.args.a in
    let args = c.args.args.now in
    let k = c.loop-k.k in
    let new = c.put_pointer_argument.new.found in
    let within : k < length args = omega (arith, c.loop-k-test.true, c.min-k-end.ensures) in
    let b = get_or args k 0 in
    let next : k + 1 ≡ suc k = omega arith in
    let adds = subst (λ j. Adds (Joins names (Sub program Plain (value program b) (Of program (target program a) (Field j)))) c.loop-k.found new) next c.in_ok-put_pointer_argument.ensures in
    upto_more names (ArgumentThrough program a args) k c.args.found.now c.loop-k.found new c.loop-k.invariant (through_more program names a args k b c.loop-k.found new (slice_get-get_or args k 0 within) adds)

pub returns : goal.returns
returns c =
    let program = c.args.points.now in
    let names = c.args.labels.now.names in
    let args = c.args.args.now in
    let good = subst IsTable c.types.ensures c.is_table.ensures in
    through_all program names c.args.a args c.args.found.now c.loop-k.found (upto_all names (ArgumentThrough program c.args.a args) c.loop-k.k c.args.found.now c.loop-k.found
    (λ k u v m is. (let few = few_steps program.types good is.2.2.1.0.node is.2.2.0.node (suc k) is.2.2.1.2.steps in let within = slice_get_within args k is.0 is.1 in omega (arith, few, within, c.loop-k-test.false, c.min-k-end.ensures))) c.loop-k.invariant)
