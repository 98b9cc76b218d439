use Rattle.std.proofs.Common.{map, refl, rules}
use Rattle.std.specs.Prelude.{string_bytes}
use Rattle.lk_sources.specs.Shelves.{shelved}
use Rattle.lk_words.specs.Seen.{seen}
use Rattle.lk_top.specs.Run.{sunk, usage, no_memory}
use Rattle.lk_top.proofs.RunLemmas.{told_fails, reports, report_fails, report_always, report_always_answers, report_never_refuses, refuses, refusal_fails, refusal_always_reports, misses, unread_fails}
use Rattle.lk_top.proofs.top.run.Goals as goal

pub examine-requires : goal.examine-requires
examine-requires g c = c.commands_are_in_bounds.ensures (map string_bytes c.args.words.now) (seen c.in-Ok.asked) c.in-Ok.ensures.ok

pub returns-in-Err-Usage-clause-fails : goal.returns-in-Err-Usage-clause-fails
returns-in-Err-Usage-clause-fails g c =
    told_fails _ _ _ _ _ _ _ (refl, refl) (usage (search rules)) c.tell.ensures (λ e. cc)

pub returns-in-Err-NoMemory-clause-fails : goal.returns-in-Err-NoMemory-clause-fails
returns-in-Err-NoMemory-clause-fails g c =
    told_fails _ _ _ _ _ _ _ (refl, refl) no_memory c.tell-in-Err-NoMemory.ensures (λ e. cc)

pub returns-in-Ok-Report-clause-reports : goal.returns-in-Ok-Report-clause-reports
returns-in-Ok-Report-clause-reports g c =
    reports _ _ (search rules) (shelved g.F.Shelf.held g.F.Shelf.bad g.F.Shelf.faults c.args.shelf.now c.examine.new.shelf) _ _ _ c.in-Ok-Report.text _ (rw c.in-Ok-Report.field-0-is at c.in-Ok-Report.ensures.answer) (rw c.deref.ensures.value at c.publish.ensures.published)

pub returns-in-Ok-Report-clause-fails : goal.returns-in-Ok-Report-clause-fails
returns-in-Ok-Report-clause-fails g c =
    report_fails _ _ (search rules) _ _ _ _ c.in-Ok-Report.text _ (rw c.in-Ok-Report.field-0-is at c.in-Ok-Report.ensures.answer) (rw c.deref.ensures.value at c.publish.ensures.published)

pub returns-in-Ok-Report-clause-always_reports : goal.returns-in-Ok-Report-clause-always_reports
returns-in-Ok-Report-clause-always_reports g c =
    report_always _ _ (search rules) _ _ _ _ c.in-Ok-Report.text _ (rw c.in-Ok-Report.field-0-is at c.in-Ok-Report.ensures.answer) (rw c.deref.ensures.value at c.publish.ensures.published)

pub returns-in-Ok-Report-clause-always_refuses : goal.returns-in-Ok-Report-clause-always_refuses
returns-in-Ok-Report-clause-always_refuses g c =
    report_never_refuses _ _ (search rules) _ _ _ _ c.in-Ok-Report.text _ (rw c.in-Ok-Report.field-0-is at c.in-Ok-Report.ensures.answer) (rw c.deref.ensures.value at c.publish.ensures.published)
    (record {
      reading = c.one_reading.ensures.reading;
      never_long = c.one_reading.ensures.never;
      never_refused = c.one_result.ensures.never;
      schedules = c.schedules_are_one.ensures;
    })

pub returns-in-Ok-Report-clause-always_answers : goal.returns-in-Ok-Report-clause-always_answers
returns-in-Ok-Report-clause-always_answers g c =
    report_always_answers (map string_bytes c.args.words.now) _ (search rules) _ _ _ _ c.in-Ok-Report.text _ (rw c.in-Ok-Report.field-0-is at c.in-Ok-Report.ensures.answer) (rw c.deref.ensures.value at c.publish.ensures.published)

pub returns-in-Ok-Refusal-clause-refuses : goal.returns-in-Ok-Refusal-clause-refuses
returns-in-Ok-Refusal-clause-refuses g c =
    refuses _ _ (search rules) (shelved g.F.Shelf.held g.F.Shelf.bad g.F.Shelf.faults c.args.shelf.now c.examine.new.shelf) (sunk g.S.Sink.gone g.S.Sink.faults c.args.out.now c.args.out.now) _ _ c.in-Ok-Refusal.line (rw c.in-Ok-Refusal.field-0-is at c.in-Ok-Refusal.ensures.answer) (rw c.deref-in-Ok-Refusal.ensures.value at c.tell-in-Ok-Refusal.ensures)

pub returns-in-Ok-Refusal-clause-fails : goal.returns-in-Ok-Refusal-clause-fails
returns-in-Ok-Refusal-clause-fails g c =
    refusal_fails _ _ (search rules) _ _ _ _ c.in-Ok-Refusal.line (rw c.in-Ok-Refusal.field-0-is at c.in-Ok-Refusal.ensures.answer) (rw c.deref-in-Ok-Refusal.ensures.value at c.tell-in-Ok-Refusal.ensures) (refl, refl)

pub returns-in-Ok-Refusal-clause-always_reports : goal.returns-in-Ok-Refusal-clause-always_reports
returns-in-Ok-Refusal-clause-always_reports g c =
    refusal_always_reports _ _ (search rules) _ _ _ _ c.in-Ok-Refusal.line (rw c.in-Ok-Refusal.field-0-is at c.in-Ok-Refusal.ensures.answer) (rw c.deref-in-Ok-Refusal.ensures.value at c.tell-in-Ok-Refusal.ensures)

pub returns-in-Ok-Unread-clause-misses : goal.returns-in-Ok-Unread-clause-misses
returns-in-Ok-Unread-clause-misses g c =
    misses _ _ (search rules) _ (sunk g.S.Sink.gone g.S.Sink.faults c.args.out.now c.args.out.now) _ _ c.in-Ok-Unread.line (rw c.in-Ok-Unread.field-0-is at c.in-Ok-Unread.ensures.answer) (rw c.deref-in-Ok-Unread.ensures.value at c.tell-in-Ok-Unread.ensures)

pub returns-in-Ok-Unread-clause-fails : goal.returns-in-Ok-Unread-clause-fails
returns-in-Ok-Unread-clause-fails g c =
    unread_fails _ _ (search rules) _ _ _ _ c.in-Ok-Unread.line (rw c.in-Ok-Unread.field-0-is at c.in-Ok-Unread.ensures.answer) (rw c.deref-in-Ok-Unread.ensures.value at c.tell-in-Ok-Unread.ensures) (refl, refl)

pub returns-clause-fails : goal.returns-clause-fails
returns-clause-fails g c =
    told_fails _ _ _ _ _ _ _ (refl, refl) no_memory c.tell-in-Err.ensures (λ e. cc)
