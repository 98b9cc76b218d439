use Rattle.std.proofs.Common.{◌∙◌, ◌<◌, ◌+◌, ℕ, sym, subst, length, get_or}
use Rattle.std.proofs.lemmas.Bool.{false≢true}
use Rattle.lk_link.specs.Clashes.{IsToldBefore}
use Rattle.lk_link.specs.declared.clash.Clash.{Clash}
use Rattle.lk_link.proofs.Telling.{best_taken, best_kept}
use Rattle.lk_link.proofs.clash.first_told.Goals as goal
use Rattle.lk_link.proofs.clash.first_told.Goals.{then-is_told_before, else-is_told_before}

pub loop-place-preserved : goal.loop-place-preserved
loop-place-preserved c =
    let xs = c.args.clashes.now in
    let place = c.loop-place.place in
    let best = c.loop-place.best in
    elim c.if-is_told_before.branch [
      | then-is_told_before w ↦
          subst (λ best. (best < length xs) × ((k : ℕ) → (d : Clash) → k < place + 1 → IsToldBefore (get_or xs k d) (get_or xs best d) → ⊥)) (sym w.best-is)
          (best_taken xs best place c.index-clashes-place.result c.index-clashes-best.result c.loop-place.invariant.0 c.loop-place-test.true c.index-clashes-place.is c.index-clashes-best.is c.loop-place.invariant.1
          (c.is_told_before.ensures.0 w.if-is_told_before.true))
      | else-is_told_before w ↦
          subst (λ best. (best < length xs) × ((k : ℕ) → (d : Clash) → k < place + 1 → IsToldBefore (get_or xs k d) (get_or xs best d) → ⊥)) (sym w.best-is)
          (best_kept xs best place c.index-clashes-place.result c.index-clashes-best.result c.loop-place.invariant.0 c.loop-place-test.true c.index-clashes-place.is c.index-clashes-best.is c.loop-place.invariant.1
          (λ told. false≢true (sym w.if-is_told_before.false ∙ c.is_told_before.ensures.1 told)))
    ]
