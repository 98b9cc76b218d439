use Rattle.std.proofs.Common.{IfOk, subst}
use Rattle.lk_typed.specs.Ty.{Pointer}
use Rattle.lk_predeclared.specs.Plain.{IsPlain}
use Rattle.lk_predeclared.proofs.FirstPlain.{first_plain, first_small}
use Rattle.lk_predeclared.proofs.types.pointer_to_first.Goals as goal

pub pointer-requires-clause-small : goal.pointer-requires-clause-small
pointer-requires-clause-small c = first_small c.args.types.now c.requires.ready c.args.target c.requires.first

pub returns-clause-plain : goal.returns-clause-plain
returns-clause-plain c =
    subst (λ tree. IfOk c.pointer.result (IsPlain c.pointer.new.types (Pointer tree))) (first_plain c.args.types.now c.requires.ready c.args.target c.requires.first).means c.pointer.ensures.plain
