use Rattle.std.proofs.Common.{◌≡◌, ◌∙◌, ◌+◌, ap, arith, sym, subst, suc}
use Rattle.lk_types.specs.Places.{entry_at, is_node}
use Rattle.lk_types.specs.Table.{fields_of, type_at}
use Rattle.lk_types.proofs.NodeLemmas.{in_field, some_nodes, more_fields, no_entry, none_past, all_fields_before}
use Rattle.lk_types.proofs.table.TypeTable.field_at.Goals as goal

pub returns-then-rest-nodes : goal.returns-then-rest-nodes
returns-then-rest-nodes c =
    let nodes = ap (λ size. size.nodes) c.size-nodes.ensures.value in
    in_field c.args.self.now c.in-Some.ensures.table c.args.t c.requires.known c.loop-field.k c.in-Some.field c.loop-field.rest c.args.number (sym c.in-Some.ensures.value)
    (let less = c.if-rest-nodes.true in omega arith) c.loop-field.invariant.0 c.in-Some.ensures.known

pub overflow_add-k : goal.overflow_add-k
overflow_add-k c =
    let nodes = ap (λ size. size.nodes) c.size-nodes.ensures.value in
    let some = some_nodes c.args.self.now c.in-Some.ensures.table c.in-Some.field in
    omega (arith, c.loop-field.invariant.1, c.if-rest-nodes.false, c.ranges.number)

pub loop-field-smaller : goal.loop-field-smaller
loop-field-smaller c =
    let nodes = ap (λ size. size.nodes) c.size-nodes.ensures.value in
    let some = some_nodes c.args.self.now c.in-Some.ensures.table c.in-Some.field in
    omega (arith, c.if-rest-nodes.false)

pub loop-field-preserved : goal.loop-field-preserved
loop-field-preserved c =
    let now = c.args.self.now in
    let nodes = ap (λ size. size.nodes) c.size-nodes.ensures.value in
    let some = some_nodes now c.in-Some.ensures.table c.in-Some.field in
    let more = more_fields now c.in-Some.ensures.table (fields_of now (type_at now c.args.t)) c.loop-field.k c.in-Some.field (sym c.in-Some.ensures.value) in
    (omega (arith, c.loop-field.invariant.0, c.if-rest-nodes.false), omega (arith, c.loop-field.invariant.1, c.if-rest-nodes.false))

pub returns : goal.returns
returns c =
    let now = c.args.self.now in
    let ts = fields_of now (type_at now c.args.t) in
    let number : c.args.number + 1 ≡ suc c.args.number = omega arith in
    let past = none_past ts c.loop-field.k (sym c.field.ensures.value ∙ c.in_default.is) in
    absurd (no_entry now c.field.ensures.table c.args.t c.requires.known c.requires.fields c.args.number
    (omega (arith, c.loop-field.invariant.0, all_fields_before now c.field.ensures.table ts c.loop-field.k past)) (subst (λ n. is_node (entry_at now c.args.t n)) number c.requires.entry))
