use Rattle.lk_label.proofs.NodeLists.{no_start, start_put}
use Rattle.lk_label.proofs.named.start_place.Goals as goal

pub returns-then-not-whole : goal.returns-then-not-whole
returns-then-not-whole c = no_start c.args.types.now c.args.t c.args.whole c.new-places.result c.if-not-whole.true c.new-places.ensures

pub returns : goal.returns
returns c =
    start_put c.args.types.now c.args.t c.args.whole c.start_node.result c.new-places.result c.put.new.self c.if-not-whole.false c.new-places.ensures c.start_node.ensures.node c.start_node.ensures.first
    c.in_ok-put.ensures
