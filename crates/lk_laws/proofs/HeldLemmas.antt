-- What some table holds is held on every way, and what is released is in each table that the rules close.
use Rattle.std.proofs.Common.{◌≡◌, ℕ, true, ⊎_elim, inl, inr, sym, ◌∙◌}
use Rattle.std.proofs.lemmas.Bool.{false≢true}
use Rattle.lk_facts.specs.Basis.{Basis}
use Rattle.lk_facts.specs.Held.{PointTest, ReleaseTest, Released, Drops, MayDrop, NotHeld, NotAdded, IsHeldTable, IsReleaseTable, AreLockSets, Adds, at_test, release_test}
use Rattle.lk_facts.specs.LockSets.{LockSets}

module _ (basis : Basis) (at : PointTest) (table : IsHeldTable basis (Released basis) at) where
  mutual
    pub never_not_held : {p x : ℕ} → NotHeld basis p x → at p x ≡ true → ⊥
    never_not_held (NotHeld.dead {p} {x} is) here = false≢true (sym is ∙ table.live p x here)
    never_not_held (NotHeld.entry {p} {x} f is) here = false≢true (sym (table.entries f p x is) ∙ here)
    never_not_held (NotHeld.still {p} {q} {x} live next none before) here =
        ⊎_elim (never_not_added none) (λ kept. never_not_held before kept.0) (table.steps p q x live next here)
    never_not_held (NotHeld.dropped {p} {q} {x} live next none drop) here =
        ⊎_elim (never_not_added none) (λ kept. kept.1 drop) (table.steps p q x live next here)

    pub never_not_added : {p x : ℕ} → NotAdded basis p x → Adds basis at p x → ⊥
    never_not_added (NotAdded.runs_none none runs) (Adds.taken takes is) = none _ _ takes is
    never_not_added (NotAdded.runs_none none runs) (Adds.brought run each) = runs _ _ _ run
    never_not_added (NotAdded.not_from none run lacks) (Adds.taken takes is) = none _ _ takes is
    never_not_added (NotAdded.not_from {p} {f} {g} {x} {way} none run lacks) (Adds.brought run' each) =
        let from = each f g way run in
        never_not_held (lacks from.0 from.1 (table.locks from.1 from.0 from.2) from.3 from.4) from.2

module _ (basis : Basis) where
  -- what is released is in each table that the rules close
  pub released_in : (releases : ReleaseTest) → IsReleaseTable basis releases → {f x : ℕ} → Released basis f x → releases f x ≡ true
  released_in releases table (Released.itself {p} {f} {x} frees) = table.itself p f x frees
  released_in releases table (Released.callee {p} {f} {g} {y} {x} {way} runs below over) =
      table.callee p f g y x way runs (released_in releases table below) over

  drops_more : {R S : ℕ → ℕ → Type 0} → ((f x : ℕ) → R f x → S f x) → {p x : ℕ} → Drops basis R p x → Drops basis S p x
  drops_more more (Drops.itself frees) = Drops.itself frees
  drops_more more (Drops.callee {g} {y} runs below over) = Drops.callee runs (more g y below) over

  -- where more is released, more may be dropped
  pub may_drop_more : {R S : ℕ → ℕ → Type 0} → ((f x : ℕ) → R f x → S f x) → (p x : ℕ) → MayDrop basis R p x → MayDrop basis S p x
  may_drop_more more p x drop = (drop.0, drops_more more drop.1, drop.2)

  -- what the lock sets hold is a table that the rules allow
  pub table_of : (held : LockSets) → AreLockSets basis held → IsHeldTable basis (Released basis) (at_test held)
  table_of held sets = record {
    locks = sets.closed.at.locks;
    live = sets.closed.at.live;
    entries = sets.closed.at.entries;
    steps = λ p q x live next here. ⊎_elim inl
        (λ kept. inr (kept.0, (λ drop. kept.1 (may_drop_more (λ f y is. released_in (release_test held) sets.closed.released is) p x drop))))
        (sets.closed.at.steps p q x live next here);
  }
