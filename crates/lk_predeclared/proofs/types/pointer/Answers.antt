use Rattle.lk_typed.specs.Meaning.{meaning}
use Rattle.lk_typed.specs.Ty.{Pointer}
use Rattle.lk_predeclared.proofs.FirstPlain.{made_some}
use Rattle.lk_predeclared.proofs.types.pointer.Goals as goal

pub unwrap-requires : goal.unwrap-requires
unwrap-requires c = made_some c.args.types.now c.pointer_to.new.types (Pointer (meaning c.args.types.now c.args.target)) c.in_ok-made.made c.in_ok-made.ensures.ok c.requires.small
