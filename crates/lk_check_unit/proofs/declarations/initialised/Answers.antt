use Rattle.std.proofs.Common.{sym, subst}
use Rattle.std.proofs.lemmas.Result.{IfOk-weaker}
use Rattle.lk_check_unit.specs.InitDeclarators.{HidesCodes}
use Rattle.lk_check_unit.proofs.Hiding.{none_hides}
use Rattle.lk_check_unit.proofs.Staying.{grows_none}
use Rattle.lk_check_unit.proofs.declarations.initialised.Goals as goal

pub returns-in-Some-clause-hides : goal.returns-in-Some-clause-hides
returns-in-Some-clause-hides c =
    IfOk-weaker c.outer_initialiser.result _ _
    (λ hidden hides. subst (λ i. HidesCodes c.args.checker.now c.outer_initialiser.new.checker c.args.target.now i hidden) (sym c.in-Some.is) hides) c.outer_initialiser.ensures.hides

pub returns-in-None-clause-grows : goal.returns-in-None-clause-grows
returns-in-None-clause-grows c = grows_none c.args.checker.now c.requires.sound

pub returns-in-None-clause-hides : goal.returns-in-None-clause-hides
returns-in-None-clause-hides c =
    subst (λ i. HidesCodes c.args.checker.now c.args.checker.now c.args.target.now i _) (sym c.in-None.is) (none_hides c.args.checker.now c.args.target.now c.requires.sound)
