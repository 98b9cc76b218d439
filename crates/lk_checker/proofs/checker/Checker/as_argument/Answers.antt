use Rattle.std.specs.Prelude.{slice_get}
use Rattle.lk_typed.specs.Forms.{passes_of}
use Rattle.lk_checker.proofs.checker.Checker.as_argument.Goals as goal

pub returns-clause-stands : goal.returns-clause-stands
returns-clause-stands c = λ other env x found size.
    c.stands_for.ensures.stands c.args.self.now.types env (slice_get (passes_of x x.typing) c.args.index) (c.passed-pass.ensures.passed other x found) size

pub returns-clause-known : goal.returns-clause-known
returns-clause-known c = c.stands_for.ensures.known c.args.self.now.types c.passed-pass.ensures.known
