use Rattle.lk_flow.proofs.ClosingLists.{all_base, closing_start}
use Rattle.lk_flow.proofs.all_edges.base.Goals as goal

pub returns : goal.returns
returns c =
    let program = c.args.points.now in
    let names = c.args.labels.now.names in
    let values = c.put_values.new.found in
    let all = all_base program names c.new-found.result c.put_rows.new.found c.put_mains.new.found values c.new-found.ensures c.in_ok-put_rows.ensures c.in_ok-put_mains.ensures c.in_ok-put_values.ensures in
    closing_start program names values all
