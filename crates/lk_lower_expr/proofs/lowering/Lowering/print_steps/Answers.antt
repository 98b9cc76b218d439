use Rattle.std.proofs.Common.{ap, ◌∙◌, ◌∷◌, [], ◌++◌}
use Rattle.lk_lower_expr.proofs.Texts.{goes_on, texts}
use Rattle.lk_lower_expr.specs.Counts.{on_by}
use Rattle.lk_lower_expr.specs.Library.{scan, scans}
use Rattle.lk_lower_expr.specs.Naming.{at_of, names_of, node_of, part_in}
use Rattle.lk_lower_expr.specs.Parts.{value_of}
use Rattle.lk_lower_expr.proofs.lowering.Lowering.print_steps.Goals as goal

pub returns : goal.returns
returns c =
    let table = c.args.self.now.table.now in
    let names = c.args.self.now.names.now in
    let node = node_of c.args.e.now in
    let format = part_in table names c.args.format.now in
    c.in_ok-push_scans.ensures ∙
    ap (λ xs. xs ++ scans (names_of table names) node 1 (texts table names node c.args.operands.now) c.args.on)
    (c.in_ok-steps.ensures.items ∙ ap (λ x. x ∷ []) (c.in_ok-first.ensures ∙
    ap (λ gives. scan (names_of table names) format gives c.in_ok-next.next) c.value_type-gives.ensures ∙
    ap (scan (names_of table names) format (value_of (names_of table names) c.args.e.now.ty))
    (c.in_ok-next.ensures ∙ ap (λ n. on_by n (at_of names node.ordinal 1) c.args.on) c.in_ok-count.ensures ∙ goes_on table names node 1 c.args.operands.now c.args.on)))
