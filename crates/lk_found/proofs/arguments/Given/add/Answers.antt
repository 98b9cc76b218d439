use Rattle.std.proofs.Common.{refl}
use Rattle.lk_found.proofs.Argued.{given_found, given_silent}
use Rattle.lk_found.proofs.arguments.Given.add.Goals as goal

pub returns-in_ok-push-in-Some-clause-given : goal.returns-in_ok-push-in-Some-clause-given
returns-in_ok-push-in-Some-clause-given c = λ table env ys y given found.
    given_found table env c.args.self.now _ c.args.a.now c.in-Some.typing ys y refl c.in_ok-push-in-Some.ensures.items c.either-holds.ensures c.in-Some.is found given

pub returns-in-None-clause-given : goal.returns-in-None-clause-given
returns-in-None-clause-given c = λ table env ys y given found.
    given_silent table env c.args.self.now _ c.args.a.now ys y refl c.either-holds.ensures c.in-None.is found given
