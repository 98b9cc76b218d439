use Rattle.lk_elaborate.proofs.BodyPut.{definition_goes, definition_made}
use Rattle.lk_elaborate.proofs.definitions.definition.Goals as goal

pub returns-clause-makes : goal.returns-clause-makes
returns-clause-makes c =
    definition_made c.args.walk.now c.begin_definition.new.walk c.put_parameters.new.walk c.body_block.new.walk c.put_body.new.walk c.args.node.now c.in_ok-head.head c.in_ok-parameters.parameters c.in_ok-block.block
    c.in_ok-head.ensures.goes_on c.in_ok-parameters.ensures.goes_on c.in_ok-block.ensures.goes_on c.in_ok-head.ensures.head c.in_ok-parameters.ensures.puts c.in_ok-block.ensures.makes c.in_ok-block.ensures.puts
    c.in_ok-put_body.ensures.puts

pub returns-clause-goes : goal.returns-clause-goes
returns-clause-goes c =
    definition_goes c.args.walk.now c.begin_definition.new.walk c.put_parameters.new.walk c.body_block.new.walk c.put_body.new.walk c.args.node.now c.in_ok-head.head c.in_ok-parameters.parameters c.in_ok-block.block
    c.in_ok-head.ensures.goes_on c.in_ok-parameters.ensures.goes_on c.in_ok-block.ensures.goes_on c.in_ok-head.ensures.head c.in_ok-parameters.ensures.puts c.in_ok-block.ensures.makes c.in_ok-block.ensures.puts
    c.in_ok-put_body.ensures.puts
