use Rattle.std.proofs.Common.{sym, subst, arith}
use Rattle.std.proofs.lemmas.Option.{slice_get_within}
use Rattle.lk_label.specs.Listing.{IsTarget}
use Rattle.lk_label.proofs.EntryLists.{AimsAt, no_label, a_label}
use Rattle.lk_label.proofs.targets.target_of.Goals as goal

pub returns-in_err-number : goal.returns-in_err-number
returns-in_err-number c =
    let t = c.in_ok-value_type.field-0 in
    let start = c.start_node-start.result in
    let node = c.in_ok-node.node in
    let aims = subst (λ table. AimsAt table t start node) c.types-types.ensures
    (record { is = c.start_node-start.ensures.node; begins = c.start_node-start.ensures.first; node_is = c.in_ok-node.ensures.node; leads = c.in_ok-node.ensures.exact }) in
    subst (IsTarget c.args.points.now c.args.names.now c.args.p) (sym c.from_residual-in_err-number.ensures) (no_label c.args.points.now c.args.names.now c.args.p t start node (sym c.in_ok-value_type.ensures.value) aims c.in_err-number.ensures)

pub overflow_cast-result : goal.overflow_cast-result
overflow_cast-result c = let within = slice_get_within c.args.names.now c.in_ok-number.number _ c.in_ok-number.ensures in omega (arith, within, c.requires.few)

pub returns : goal.returns
returns c =
    let t = c.in_ok-value_type.field-0 in
    let start = c.start_node-start.result in
    let node = c.in_ok-node.node in
    let aims = subst (λ table. AimsAt table t start node) c.types-types.ensures
    (record { is = c.start_node-start.ensures.node; begins = c.start_node-start.ensures.first; node_is = c.in_ok-node.ensures.node; leads = c.in_ok-node.ensures.exact }) in
    a_label c.args.points.now c.args.names.now c.args.p t c.in_ok-number.number start node (sym c.in_ok-value_type.ensures.value) aims c.in_ok-number.ensures
