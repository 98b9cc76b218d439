use Rattle.std.proofs.Common.{subst, sym}
use Rattle.lk_checker.specs.Sources.{TellsFirst}
use Rattle.lk_check_unit.proofs.source.check_faults.Goals as goal

pub returns : goal.returns
returns c = subst (TellsFirst c.args.externs.now c.args.unit.now) (sym c.first_fault-first.ensures.told) c.in_ok-checker.ensures.told
