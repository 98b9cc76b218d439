-- The members that the first sources give to the program's structs.
use Rattle.std.proofs.Common.{◌≡◌, ◌∙◌, inl, inr, ◌++◌, ℕ, Bool, true, false, List, [], ◌∷◌, Some, refl, sym, ap, subst, length}
use Rattle.std.proofs.lemmas.Option.{none-some, same_Some, slice_get_within}
use Rattle.std.specs.List.{slice_get}
use Rattle.std.specs.Prelude.{unwrap_or}
use Rattle.lk_link.specs.Sources.{Units}
use Rattle.lk_typed.specs.declared.unit.TypedUnit.{TypedUnit}
use Rattle.lk_types.specs.Table.{Table, is_empty, is_open}
use Rattle.lk_types.proofs.AddLemmas.{last_got}
use Rattle.lk_types.proofs.GrowLemmas.{get_before}
use Rattle.lk_join.specs.Completing.{AreCompleted, AreOpen, GivesMembers, HasMembers, IsGivenBy}
use Rattle.lk_join.proofs.Completed.{all_completed_later, given_later, never_both}
use Rattle.lk_join.proofs.Saying.{push_cases}

module _ (units : Units) (structs : List (List ℕ)) where
  pub no_members : (table : Table) → AreOpen table → HasMembers units structs [] table
  no_members table open_ = record {
    given = λ n closed. absurd (never_both (is_open table n) (open_ n) closed);
    completed = λ s unit row here at row_at. absurd (none-some row row_at);
  }

  -- the same by a table that has the same structs
  pub members_by : (rows : List (List ℕ)) (old new : Table) → new.members ≡ old.members → HasMembers units structs rows old → HasMembers units structs rows new
  members_by rows old new same h = record {
    given = λ n closed. let g = h.given n (sym (open_by n) ∙ closed) in record {
      source = g.source;
      unit = g.unit;
      row = g.row;
      here = g.here;
      at = g.at;
      row_at = g.row_at;
      here_at = g.here_at;
      is = given_later g.unit.types g.here g.row old new n (ap (λ ms. unwrap_or (slice_get ms n) []) same) g.is;
    };
    completed = λ s unit row here at row_at here_at a less n number complete. open_by n ∙ h.completed s unit row here at row_at here_at a less n number complete;
  }
    where
      open_by : (n : ℕ) → is_open new n ≡ is_open old n
      open_by n = ap (λ ms. is_empty (unwrap_or (slice_get ms n) [])) same

  -- one more source
  module _ (rows : List (List ℕ)) (old new : Table) (row here : List ℕ) (unit : TypedUnit) (count : ℕ) (size : length rows ≡ count) (unit_at : slice_get units count ≡ Some unit) (here_at : slice_get structs count ≡ Some here)
      (gives : GivesMembers unit.types row here old new) (completed : AreCompleted unit.types here new (length unit.types.members)) (h : HasMembers units structs rows old) where
    given_now : (n : ℕ) → is_open new n ≡ false → (before : Bool) → is_open old n ≡ before → IsGivenBy units structs (rows ++ row ∷ []) new n
    given_now n closed true is = record {
      source = count;
      unit = unit;
      row = row;
      here = here;
      at = unit_at;
      row_at = ap (slice_get (rows ++ row ∷ [])) (sym size) ∙ last_got rows row;
      here_at = here_at;
      is = gives.given n is closed;
    }
    given_now n closed false is = let g = h.given n is in record {
      source = g.source;
      unit = g.unit;
      row = g.row;
      here = g.here;
      at = g.at;
      row_at = get_before rows (row ∷ []) g.source (slice_get_within rows g.source g.row g.row_at) ∙ g.row_at;
      here_at = g.here_at;
      is = given_later g.unit.types g.here g.row old new n (gives.longer.members n is) g.is;
    }

    completed_now : (s : ℕ) (u : TypedUnit) (r k : List ℕ) → slice_get units s ≡ Some u → slice_get (rows ++ row ∷ []) s ≡ Some r → slice_get structs s ≡ Some k → AreCompleted u.types k new (length u.types.members)
    completed_now s u r k at row_at bt = elim (push_cases rows row r s row_at) [
      | inl before ↦ all_completed_later u.types k old new gives.longer (length u.types.members) (h.completed s u r k at before bt)
      | inr last ↦
          let place = sym (last.0 ∙ size) in
          let unit_is = same_Some unit u (sym unit_at ∙ ap (slice_get units) place ∙ at) in
          let here_is = same_Some here k (sym here_at ∙ ap (slice_get structs) place ∙ bt) in
          subst (λ (v : TypedUnit). AreCompleted v.types k new (length v.types.members)) unit_is (subst (λ j. AreCompleted unit.types j new (length unit.types.members)) here_is completed)
    ]

    pub members_more : HasMembers units structs (rows ++ row ∷ []) new
    members_more = record { given = λ n closed. given_now n closed (is_open old n) refl; completed = completed_now }
