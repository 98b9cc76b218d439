use Rattle.std.proofs.Common.{refl}
use Rattle.std.proofs.lemmas.Result.{on_ok_weaker}
use Rattle.lk_check_unit.proofs.Staying.{stays_by}
use Rattle.lk_check_unit.proofs.asking.condition_in.Goals as goal

pub returns-clause-stays : goal.returns-clause-stays
returns-clause-stays c =
    on_ok_weaker c.condition.result (λ grows. stays_by c.args.checker.now c.condition.new.checker c.args.body.now c.args.body.now c.requires.sound c.requires.known grows refl) c.condition.ensures.grows
