use Rattle.std.proofs.Common.{All, subst}
use Rattle.lk_sources.specs.Accepting.{AreRefused, IsCheckedSource}
use Rattle.lk_sources.proofs.Many.{accepted_all}
use Rattle.lk_sources.proofs.Told.{told_in_file}
use Rattle.lk_sources.proofs.accepting.accept.Goals as goal

pub returns-in-Err-Refused-clause-err : goal.returns-in-Err-Refused-clause-err
returns-in-Err-Refused-clause-err c =
    let told = rw c.in-Err-Refused.field-0-is at c.in-Err-Refused.ensures.err in
    let last = c.judge.new.files in
    let refusal = c.in-Err-Refused.refusal in
    told_in_file c.args.files c.args.externs.items c.args.sources.now last refusal c.refused_in.result
    (subst (λ e. AreRefused c.args.files e c.args.sources.now last refusal) c.deref.ensures.value told) (rw c.in-Err-Refused.field-0-is at c.refused_in.ensures)

pub returns-in-Ok-clause-checked : goal.returns-in-Ok-clause-checked
returns-in-Ok-clause-checked c =
    record {
      each = subst (λ externs. All (IsCheckedSource externs) c.in-Ok.sources.items) c.deref.ensures.value c.in-Ok.ensures.checked;
      placed = c.in-Ok.ensures.placed;
    }

pub returns-in-Ok-clause-many : goal.returns-in-Ok-clause-many
returns-in-Ok-clause-many c = accepted_all c.args.sources.now c.in-Ok.sources.items c.in-Ok.ensures.ok
