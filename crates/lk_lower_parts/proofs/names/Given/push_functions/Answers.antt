use Rattle.std.proofs.Common.{arith, refl, subst, sym, ◌∙◌, ◌≡◌, Some, slice_get}
use Rattle.std.proofs.lemmas.Option.{slice_get_read, slice_get_within}
use Rattle.lk_lower_parts.proofs.FunctionCounts.{below_count}
use Rattle.lk_lower_parts.proofs.names.Given.push_functions.Goals as goal

pub push-requires-clause-entity : goal.push-requires-clause-entity
push-requires-clause-entity c =
    let x = c.body-item.result in
    let i = c.loop-body.body-index in
    let at : slice_get c.linked-linked.result.now.unit.bodies i ≡ Some x = subst (λ all. slice_get all i ≡ Some x) c.list-body-items.ensures (slice_get_read c.list-body-items.result.now _ i x refl c.loop-body-test.true c.body-item.is) in
    c.requires.slots.whole.bodies c.args.source i c.linked-linked.result.now x c.linked-linked.ensures at

pub push-requires-clause-slots : goal.push-requires-clause-slots
push-requires-clause-slots c =
    let x = c.body-item.result in
    let i = c.loop-body.body-index in
    let linked = c.linked-linked.result.now in
    let at : slice_get linked.unit.bodies i ≡ Some x = subst (λ all. slice_get all i ≡ Some x) c.list-body-items.ensures (slice_get_read c.list-body-items.result.now _ i x refl c.loop-body-test.true c.body-item.is) in
    let below = below_count c.args.self.now.whole.now.sources c.args.self.now.functions.now c.requires.slots.numbers c.args.source i linked c.linked-linked.ensures (slice_get_within linked.unit.bodies i x at) in
    omega (arith, below, c.requires.slots.as_many, c.requires.behind, c.loop-body.invariant.as_many, c.in_ok-count_of.ensures, c.len.ensures)
