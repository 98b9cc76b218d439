use Rattle.std.proofs.Common.{map, refl, rules}
use Rattle.std.specs.Prelude.{string_bytes}
use Rattle.lk_sources.specs.Shelves.{shelved}
use Rattle.lk_confirm.specs.Run.{sunk, usage, no_memory}
use Rattle.lk_confirm.proofs.RunLemmas.{told_fails, told_got, never_refused, reports, report_fails, report_always, report_always_answers, report_never_refuses, refuses, refusal_fails, refusal_always_reports, misses, unread_fails}
use Rattle.lk_confirm.proofs.top.run.Goals as goal

pub returns-in-Err-Usage-clause-fails : goal.returns-in-Err-Usage-clause-fails
returns-in-Err-Usage-clause-fails g c =
    told_fails _ _ _ _ _ _ _ (refl, refl) (usage (c.in-Err-Usage.ensures.usage (search rules))) c.tell-in-Err-Usage.ensures (λ e. cc)

pub returns-in-Err-NoMemory-clause-fails : goal.returns-in-Err-NoMemory-clause-fails
returns-in-Err-NoMemory-clause-fails g c =
    told_fails _ _ _ _ _ _ _ (refl, refl) no_memory c.tell-in-Err-NoMemory.ensures (λ e. cc)

pub returns-in-Ok-Report-clause-reports : goal.returns-in-Ok-Report-clause-reports
returns-in-Ok-Report-clause-reports g c =
    let answers = rw c.in-Ok-Report.field-0-is at c.in-Ok-Report.ensures.answer in
    reports _ answers.0 answers.1 (shelved g.F.Shelf.held g.F.Shelf.bad g.F.Shelf.faults c.args.shelf.now c.answer_words.new.shelf) _ _ _ c.in-Ok-Report.text _ answers.2 (rw c.deref.ensures.value at c.publish.ensures.published)

pub returns-in-Ok-Report-clause-fails : goal.returns-in-Ok-Report-clause-fails
returns-in-Ok-Report-clause-fails g c =
    let answers = rw c.in-Ok-Report.field-0-is at c.in-Ok-Report.ensures.answer in
    report_fails _ answers.0 answers.1 _ _ _ _ c.in-Ok-Report.text _ answers.2 (rw c.deref.ensures.value at c.publish.ensures.published)

pub returns-in-Ok-Report-clause-always_reports : goal.returns-in-Ok-Report-clause-always_reports
returns-in-Ok-Report-clause-always_reports g c =
    let answers = rw c.in-Ok-Report.field-0-is at c.in-Ok-Report.ensures.answer in
    report_always _ answers.0 answers.1 _ _ _ _ c.in-Ok-Report.text _ answers.2 (rw c.deref.ensures.value at c.publish.ensures.published)

pub returns-in-Ok-Report-clause-always_refuses : goal.returns-in-Ok-Report-clause-always_refuses
returns-in-Ok-Report-clause-always_refuses g c =
    let answers = rw c.in-Ok-Report.field-0-is at c.in-Ok-Report.ensures.answer in
    report_never_refuses _ answers.0 answers.1 _ _ _ _ c.in-Ok-Report.text _ answers.2 (rw c.deref.ensures.value at c.publish.ensures.published)
    (record {
      reading = c.one_reading.ensures.reading;
      never_long = c.one_reading.ensures.never;
      never_refused = c.one_result.ensures.never;
    })

pub returns-in-Ok-Report-clause-always_answers : goal.returns-in-Ok-Report-clause-always_answers
returns-in-Ok-Report-clause-always_answers g c =
    let answers = rw c.in-Ok-Report.field-0-is at c.in-Ok-Report.ensures.answer in
    report_always_answers (map string_bytes c.args.words.now) answers.0 answers.1 _ _ _ _ c.in-Ok-Report.text _ answers.2 (rw c.deref.ensures.value at c.publish.ensures.published)

pub returns-in-Ok-Refusal-clause-refuses : goal.returns-in-Ok-Refusal-clause-refuses
returns-in-Ok-Refusal-clause-refuses g c =
    let answers = rw c.in-Ok-Refusal.field-0-is at c.in-Ok-Refusal.ensures.answer in
    refuses _ answers.0 answers.1 (shelved g.F.Shelf.held g.F.Shelf.bad g.F.Shelf.faults c.args.shelf.now c.answer_words.new.shelf) (sunk g.S.Sink.gone g.S.Sink.faults c.args.out.now c.args.out.now) _ _ c.in-Ok-Refusal.line answers.2 (rw c.deref-in-Ok-Refusal.ensures.value at c.tell.ensures)

pub returns-in-Ok-Refusal-clause-fails : goal.returns-in-Ok-Refusal-clause-fails
returns-in-Ok-Refusal-clause-fails g c =
    let answers = rw c.in-Ok-Refusal.field-0-is at c.in-Ok-Refusal.ensures.answer in
    refusal_fails _ answers.0 answers.1 _ _ _ _ c.in-Ok-Refusal.line answers.2 (rw c.deref-in-Ok-Refusal.ensures.value at c.tell.ensures) (refl, refl)

pub returns-in-Ok-Refusal-clause-always_reports : goal.returns-in-Ok-Refusal-clause-always_reports
returns-in-Ok-Refusal-clause-always_reports g c =
    let answers = rw c.in-Ok-Refusal.field-0-is at c.in-Ok-Refusal.ensures.answer in
    refusal_always_reports _ answers.0 answers.1 _ _ _ _ c.in-Ok-Refusal.line answers.2 (rw c.deref-in-Ok-Refusal.ensures.value at c.tell.ensures)

pub returns-in-Ok-Unread-clause-misses : goal.returns-in-Ok-Unread-clause-misses
returns-in-Ok-Unread-clause-misses g c =
    let answers = rw c.in-Ok-Unread.field-0-is at c.in-Ok-Unread.ensures.answer in
    misses _ answers.0 answers.1 _ (sunk g.S.Sink.gone g.S.Sink.faults c.args.out.now c.args.out.now) _ _ c.in-Ok-Unread.line answers.2 (rw c.deref-in-Ok-Unread.ensures.value at c.tell-in-Ok-Unread.ensures)

pub returns-in-Ok-Unread-clause-fails : goal.returns-in-Ok-Unread-clause-fails
returns-in-Ok-Unread-clause-fails g c =
    let answers = rw c.in-Ok-Unread.field-0-is at c.in-Ok-Unread.ensures.answer in
    unread_fails _ answers.0 answers.1 _ _ _ _ c.in-Ok-Unread.line answers.2 (rw c.deref-in-Ok-Unread.ensures.value at c.tell-in-Ok-Unread.ensures) (refl, refl)

pub returns-in-Ok-Report-clause-always_usage : goal.returns-in-Ok-Report-clause-always_usage
returns-in-Ok-Report-clause-always_usage g c = λ none.
    let answers = rw c.in-Ok-Report.field-0-is at c.in-Ok-Report.ensures.answer in
    absurd (none answers.0 answers.1)

pub returns-in-Ok-Refusal-clause-always_usage : goal.returns-in-Ok-Refusal-clause-always_usage
returns-in-Ok-Refusal-clause-always_usage g c = λ none.
    let answers = rw c.in-Ok-Refusal.field-0-is at c.in-Ok-Refusal.ensures.answer in
    absurd (none answers.0 answers.1)

pub returns-in-Ok-Unread-clause-always_usage : goal.returns-in-Ok-Unread-clause-always_usage
returns-in-Ok-Unread-clause-always_usage g c = λ none.
    let answers = rw c.in-Ok-Unread.field-0-is at c.in-Ok-Unread.ensures.answer in
    absurd (none answers.0 answers.1)

pub returns-in-Err-Usage-clause-always_reports : goal.returns-in-Err-Usage-clause-always_reports
returns-in-Err-Usage-clause-always_reports g c = λ held told risen asked is quiet. absurd (c.in-Err-Usage.ensures.usage c.in-Err-Usage.field-0-is asked is)

pub returns-in-Err-Usage-clause-always_refuses : goal.returns-in-Err-Usage-clause-always_refuses
returns-in-Err-Usage-clause-always_refuses g c = λ held told risen file refusal comes.
    absurd (never_refused file refusal (c.in-Err-Usage.ensures.usage c.in-Err-Usage.field-0-is) comes)

pub returns-in-Err-Usage-clause-always_answers : goal.returns-in-Err-Usage-clause-always_answers
returns-in-Err-Usage-clause-always_answers g c = λ risen asked is. absurd (c.in-Err-Usage.ensures.usage c.in-Err-Usage.field-0-is asked is)

pub returns-in-Err-Usage-clause-usage : goal.returns-in-Err-Usage-clause-usage
returns-in-Err-Usage-clause-usage g c = λ is.
    (c.in-Err-Usage.ensures.usage c.in-Err-Usage.field-0-is, told_got _ _ _ _ c.tell-in-Err-Usage.ensures (λ e. cc) is, c.in-Err-Usage.ensures.unread c.in-Err-Usage.field-0-is)
