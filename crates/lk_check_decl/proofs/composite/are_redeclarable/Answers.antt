use Rattle.lk_typed.proofs.Redeclarable.{redeclarable_by}
use Rattle.lk_check_decl.proofs.composite.are_redeclarable.Goals as goal

pub returns : goal.returns
returns c = redeclarable_by c.args.types.now c.is_table.ensures c.args.t c.args.u c.requires.t c.requires.u c.are_redeclarable.result c.are_redeclarable.ensures
