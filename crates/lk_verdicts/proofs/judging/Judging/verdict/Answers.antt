use Rattle.lk_facts.specs.Facts.{basis_of}
use Rattle.std.proofs.Common.{◌∙◌, refl, sym, ap, subst, List}
use Rattle.lk_facts.specs.Verdicts.{AreRacing}
use Rattle.lk_facts.specs.declared.verdict.Racing.{Racing}
use Rattle.lk_rise.specs.Correlations.{has_of, locks_of}
use Rattle.lk_sets.specs.Ids.{has_id}
use Rattle.lk_verdicts.specs.Judging.{IsCommon, state_of}
use Rattle.lk_verdicts.proofs.VerdictLemmas.{verdict_is}
use Rattle.lk_verdicts.proofs.judging.Judging.verdict.Goals as goal

pub returns : goal.returns
returns c =
    let self = c.args.self.now in
    let entries = self.conflicts.now.entries in
    verdict_is (basis_of self.facts.now) (has_of entries) (locks_of entries) (has_id self.linear.now) c.args.location _ refl
    (subst (AreRacing (basis_of self.facts.now) (has_of entries) (locks_of entries) (has_id self.linear.now) c.args.location) (sym c.new.ensures) c.in_ok-accesses.ensures)
    (subst (λ (xs : List Racing). IsCommon xs c.in_ok-locks.locks) (c.deref.ensures.value ∙ sym c.new.ensures) c.in_ok-locks.ensures)
    (c.state-state.ensures ∙ ap (λ (xs : List Racing). state_of xs c.in_ok-locks.locks) (c.deref-2.ensures.value ∙ sym c.new.ensures))
