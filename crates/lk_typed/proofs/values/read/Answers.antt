use Rattle.lk_typed.proofs.values.read.Goals as goal

pub returns-then-e-clause-operand : goal.returns-then-e-clause-operand
returns-then-e-clause-operand c = (c.of_type.ensures c.args.types.now c.requires.known).operand
