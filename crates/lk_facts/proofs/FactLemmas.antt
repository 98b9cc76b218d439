-- When the points, labels and origins of a program agree.
use Rattle.std.proofs.Common.{◌≡◌, ◌<◌, ◌≤◌, ℕ, false, length, refl, sym, ◌∙◌, arith, inl, inr}
use Rattle.std.proofs.lemmas.Bool.{false≢true, cases_lt}
use Rattle.std.proofs.lemmas.Option.{slice_get_past}
use Rattle.lk_facts.specs.Facts.{facts_of, AreFacts, IsLabelOf}
use Rattle.lk_facts.specs.Labels.{LabelTable, is_origin_at}
use Rattle.lk_facts.specs.Origins.{OriginTable}
use Rattle.lk_facts.specs.declared.program.Program.{Program}

-- no label past the end is an origin
past_is_none : (labels : LabelTable) (x : ℕ) → length labels.entries ≤ x → is_origin_at labels x ≡ false
past_is_none labels x past = rw (slice_get_past labels.entries x past) refl

module _ (program : Program) (labels : LabelTable) (origins : OriginTable) where
  pub agree : length labels.targets ≡ length program.points → origins.all.size ≡ length labels.entries → length program.places ≤ length labels.entries →
      ((x : ℕ) → x < length labels.entries → IsLabelOf program labels x) → AreFacts (facts_of program labels origins)
  agree targets sizes places each = record {
    targets = targets;
    origins = sizes;
    places = places;
    locks = λ x. elim (cases_lt x (length labels.entries)) [
      | inl within ↦ (each x within).lock
      | inr past ↦ ((λ lock. absurd (false≢true (sym (past_is_none labels x past) ∙ lock.0))), (λ place. absurd (omega (arith, place.1))))
    ];
    roots = λ x r origin is. elim (cases_lt x (length labels.entries)) [
      | inl within ↦ (each x within).root r origin is
      | inr past ↦ absurd (false≢true (sym (past_is_none labels x past) ∙ origin))
    ];
  }

  pub each_of : AreFacts (facts_of program labels origins) → (x : ℕ) → IsLabelOf program labels x
  each_of facts x = record { lock = facts.locks x; root = λ r origin is. facts.roots x r origin is }
