use Rattle.lk_facts.specs.Facts.{basis_of}
use Rattle.std.proofs.Common.{◌≡◌, ◌∙◌, ℕ, Some, sym, subst, arith, inl, inr}
use Rattle.std.specs.List.{slice_get}
use Rattle.lk_facts.specs.Verdicts.{IsVerdictOf}
use Rattle.lk_facts.specs.declared.verdict.Verdict.{Verdict}
use Rattle.lk_rise.specs.Correlations.{has_of, locks_of}
use Rattle.lk_sets.specs.Ids.{has_id}
use Rattle.lk_verdicts.proofs.VerdictLemmas.{got_more}
use Rattle.lk_verdicts.proofs.judging.verdicts.Goals as goal

pub loop-location-preserved : goal.loop-location-preserved
loop-location-preserved c =
    let P : ℕ → Verdict → Type 0 = IsVerdictOf (basis_of c.args.facts.now) (has_of c.args.conflicts.now.entries) (locks_of c.args.conflicts.now.entries) (has_id c.args.linear.now) in
    let old = c.loop-location.verdicts.items in
    let new : Verdict = c.in_ok-verdict.field-0 in
    record {
      each = omega (arith, c.in_ok-push.ensures.len, c.loop-location.invariant.each);
      are = λ o verdict at.
          elim (got_more old new o verdict (subst (λ xs. slice_get xs o ≡ Some verdict) c.in_ok-push.ensures.items at)) [
            | inl before ↦ c.loop-location.invariant.are o verdict before
            | inr last ↦ subst (P o) last.1 (subst (λ n. P n new) (sym (last.0 ∙ c.loop-location.invariant.each)) c.in_ok-verdict.ensures)
          ];
    }
