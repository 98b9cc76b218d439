use Rattle.std.proofs.Common.{All, refl, subst}
use Rattle.std.proofs.lemmas.List.{take_all}
use Rattle.std.proofs.lemmas.List.Elements.{All-more}
use Rattle.lk_elaborate.specs.Finishing.{IsWhole}
use Rattle.lk_elaborate.proofs.unit.are_whole.Goals as goal

pub loop-members-preserved : goal.loop-members-preserved
loop-members-preserved c =
    All-more IsWhole c.args.structs.now c.loop-members.members-index c.members-item.result c.loop-members-test.true c.loop-members.invariant
    (subst IsWhole c.members-item.is (c.if-not-is_whole.ensures refl))

pub returns : goal.returns
returns c = λ _. subst (All IsWhole) (take_all c.loop-members.members-index c.args.structs.now c.loop-members-test.false) c.loop-members.invariant
