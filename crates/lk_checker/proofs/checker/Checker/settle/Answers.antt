use Rattle.std.proofs.Common.{refl}
use Rattle.std.specs.Prelude.{option_map}
use Rattle.lk_typed.specs.Faults.{breach}
use Rattle.lk_found.specs.Judging.{code_in}
use Rattle.lk_found.proofs.Settling.{told_plainly}
use Rattle.lk_checker.proofs.Settling.{settled}
use Rattle.lk_checker.proofs.checker.Checker.settle.Goals as goal

pub returns : goal.returns
returns c = λ env behind form plain is looks.
    settled c.args.self.now c.tell.new.self c.args.e.now env behind form c.args.ruled c.args.look c.at_expr-at.result (option_map breach (code_in c.args.ruled.verdict))
    (record { typing = c.in_ok-typing.typing; address = c.args.ruled.address; look = c.args.look }) c.requires c.at_expr-at.ensures c.in_ok-typing.ensures.tells
    (told_plainly c.args.e.now plain (code_in c.args.ruled.verdict)) c.in_ok-typing.ensures.typed refl refl is looks
