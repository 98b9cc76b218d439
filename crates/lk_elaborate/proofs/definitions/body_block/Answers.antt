use Rattle.std.proofs.Common.{refl}
use Rattle.lk_elaborate.proofs.Defining.{block_made}
use Rattle.lk_elaborate.proofs.PuttingStatements as put
use Rattle.lk_elaborate.proofs.Shaping.{a_block}
use Rattle.lk_elaborate.proofs.definitions.body_block.Goals as goal

pub returns-clause-makes : goal.returns-clause-makes
returns-clause-makes c =
    block_made c.args.walk.now c.block_items.new.walk c.args.node.now c.args.t c.in_ok-around.around c.items_of.result.now c.in_ok-items.items _ c.items_of.ensures c.in_ok-around.ensures c.in_ok-items.ensures.makes
    (record { spot = refl; ordinal = refl; made = a_block c.in_ok-items.items })

pub returns-clause-puts : goal.returns-clause-puts
returns-clause-puts c = put.block_put c.args.walk.now c.block_items.new.walk c.args.node.now c.items_of.result.now c.items_of.ensures c.in_ok-items.ensures.puts
