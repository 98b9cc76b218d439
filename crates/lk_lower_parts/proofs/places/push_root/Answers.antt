use Rattle.std.proofs.Common.{sym, ◌∙◌}
use Rattle.std.proofs.lemmas.Result.{on_ok_weaker}
use Rattle.lk_lower_parts.proofs.CellLists.{root_put, no_root}
use Rattle.lk_lower_parts.proofs.places.push_root.Goals as goal
use Rattle.lk_types.proofs.KeptLemmas.{read_got}

pub returns : goal.returns
returns c =
    on_ok_weaker c.push.result
    (λ adds. root_put c.args.types.now c.args.roots.now c.index-roots-root.result (record { root = c.args.root; node = c.start_node.result }) c.args.cells.now c.push.new.self (read_got c.args.roots.now c.args.root c.index-roots-root.result c.requires.within c.index-roots-root.is)
    (sym c.has_cells.ensures ∙ c.if-not-has_cells.false) c.start_node.ensures.node c.start_node.ensures.first adds)
    c.push.ensures

pub returns-then-not-has_cells : goal.returns-then-not-has_cells
returns-then-not-has_cells c =
    no_root c.args.types.now c.args.roots.now c.index-roots-root.result c.args.root c.args.cells.now (read_got c.args.roots.now c.args.root c.index-roots-root.result c.requires.within c.index-roots-root.is) (sym c.has_cells.ensures ∙ c.if-not-has_cells.true)
