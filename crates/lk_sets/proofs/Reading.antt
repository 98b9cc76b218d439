-- Reading a row: what is in it, and what is left of it once one number was read.
use Rattle.std.proofs.Common.{ℕ, ◌≡◌, ◌⊎◌, true, eqb, List, ◌∷◌, refl, sym, ap, ◌∙◌, inl, inr}
use Rattle.std.proofs.lemmas.Bool.{eqb-true, eq-eqb, or_cases, or_left, or_right}
use Rattle.lk_sets.specs.Ids.{has_id}
use Rattle.lk_sets.specs.Rows.{Rows, has, row_of}

-- the numbers of a row are those that stand with it
pub has_id-row : (r : Rows) (a b : ℕ) (ids : List ℕ) → ids ≡ row_of r a → has_id ids b ≡ has r a b
unfolding has
has_id-row r a b ids e = ap (λ row. has_id row b) e

-- the number that is read is in what was left
pub read_here : {ids rest : List ℕ} {c : ℕ} → ids ≡ c ∷ rest → has_id ids c ≡ true
read_here {ids} {rest} {c} e = ap (λ row. has_id row c) e ∙ or_left _ _ (eq-eqb c c refl)

-- so is each that is left then
pub left_later : {ids rest : List ℕ} {c : ℕ} → ids ≡ c ∷ rest → (y : ℕ) → has_id rest y ≡ true → has_id ids y ≡ true
left_later {ids} {rest} {c} e y h = ap (λ row. has_id row y) e ∙ or_right (eqb c y) _ h

-- and no other is
pub read_cases : {ids rest : List ℕ} {c : ℕ} → ids ≡ c ∷ rest → (y : ℕ) → has_id ids y ≡ true → (c ≡ y) ⊎ (has_id rest y ≡ true)
read_cases {ids} {rest} {c} e y h =
    elim (or_cases (eqb c y) (has_id rest y) (sym (ap (λ row. has_id row y) e) ∙ h)) [ inl same ↦ inl (eqb-true c y same) | inr later ↦ inr later ]
