use Rattle.std.proofs.Common.{◌∙◌, sym, ap}
use Rattle.lk_typed.specs.Stands.{fault_at}
use Rattle.lk_found.specs.Findings.{mark_at}
use Rattle.lk_checker.specs.States.{first_of}
use Rattle.lk_checker.proofs.checker.Checker.comes_first.Goals as goal

pub returns-in-Some : goal.returns-in-Some
returns-in-Some c = λ name. c.is_behind.ensures name ∙ ap (λ o. first_of o (fault_at (mark_at c.args.at) (record { code = c.args.code; name = name }))) (sym c.in-Some.is)
