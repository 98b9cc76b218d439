-- Arrows that pass rows on: one arrow, and what is there once all have.
use Rattle.std.proofs.Common.{ℕ, ◌≡◌, ◌||◌, ◌&&◌, Bool, true, eqb, List, All, Contains, refl, sym, ◌∙◌, subst, inl, inr}
use Rattle.std.proofs.lemmas.Bool.{and_from, and_parts, eqb-true, eq-eqb, or_cases, or_right}
use Rattle.std.proofs.lemmas.List.Elements.{All-contains}
use Rattle.lk_sets.specs.declared.spread.Arrow.{Arrow}
use Rattle.lk_sets.specs.Rows.{Rows, has}
use Rattle.lk_sets.specs.Closing.{Grows, Going}
use Rattle.lk_sets.specs.Spread.{Spread, IsSound, PassesOn}
use Rattle.lk_sets.specs.Spread.Spread.{stands, passed}

-- one arrow
pub going_arrow : (arrows : List Arrow) (first mid now : Rows) (arrow : Arrow) (changed : Bool) → Contains arrows arrow → ((x y : ℕ) → has now x y ≡ (has mid x y || (eqb x arrow.into && has mid arrow.from y))) → Grows mid now changed → Going (IsSound arrows first) (λ r. PassesOn r arrow) mid now changed
going_arrow arrows first mid now arrow changed there pairs grows = record {
  grows = grows;
  sound = λ sound a b h.
      elim (or_cases (has mid a b) _ (sym (pairs a b) ∙ h)) [
        | inl before ↦ sound a b before
        | inr new ↦
            let parts = and_parts (eqb a arrow.into) (has mid arrow.from b) new in
            subst (λ x. Spread arrows first x b) (sym (eqb-true a arrow.into parts.0)) (passed arrow there (sound arrow.from b parts.1))
      ];
  done = λ none b h.
      let before : has mid arrow.from b ≡ true = subst (λ r. has r arrow.from b ≡ true) (grows.same none) h in
      pairs arrow.into b ∙ or_right _ _ (and_from _ _ (eq-eqb arrow.into arrow.into refl) before);
}

-- where each arrow has passed on what it has, all pairs are there
pub spread_there : {arrows : List Arrow} {first : Rows} {a b : ℕ} → Spread arrows first a b → (now : Rows) → ((x y : ℕ) → has first x y ≡ true → has now x y ≡ true) → All (PassesOn now) arrows → has now a b ≡ true
spread_there {arrows} {first} {a} {b} (stands h) now kept closed = kept a b h
spread_there {arrows} {first} {a} {b} (passed arrow there before) now kept closed = All-contains (PassesOn now) arrows arrow closed there b (spread_there before now kept closed)
