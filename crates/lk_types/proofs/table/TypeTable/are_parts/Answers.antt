use Rattle.std.proofs.Common.{◌∙◌, refl, sym, subst}
use Rattle.std.proofs.lemmas.Bool.{false≢true}
use Rattle.std.proofs.lemmas.Option.{same_Some}
use Rattle.lk_types.specs.Building.{IsPart}
use Rattle.lk_types.proofs.KeptLemmas.{read_got}
use Rattle.lk_types.proofs.SizeLemmas.{all_read}
use Rattle.lk_types.proofs.VoidParts.{more_parts, no_part_twice}
use Rattle.lk_types.proofs.table.TypeTable.are_parts.Goals.{then-not-is_part-via-then-not-is_part, then-not-is_part-via-else-not-is_part+then-contains}
use Rattle.lk_types.proofs.table.TypeTable.are_parts.Goals as goal

pub returns-then-not-is_part : goal.returns-then-not-is_part
returns-then-not-is_part c =
    let now = c.args.self.now in
    let parts = c.args.parts.now in
    let k = c.loop-place.place in
    let at = read_got parts k c.index-parts-place.result c.loop-place-test.true c.index-parts-place.is in
    elim c.then-not-is_part.branch [
      | then-not-is_part-via-then-not-is_part w ↦ ((λ is. absurd (false≢true is)), (λ ok. absurd (false≢true (w.if-not-is_part.ensures.1 (all_read (IsPart now) parts k c.index-parts-place.result ok.each at)))))
      | then-not-is_part-via-else-not-is_part+then-contains w ↦ (
          let at' = read_got parts k w.index-parts-place-else-not-is_part.result c.loop-place-test.true w.index-parts-place-else-not-is_part.is in
          ((λ is. absurd (false≢true is)), (λ ok. absurd (no_part_twice now parts k w.index-parts-place-else-not-is_part.result at' ok (sym w.if-contains.ensures.value)))))
    ]

pub loop-place-preserved : goal.loop-place-preserved
loop-place-preserved c =
    let now = c.args.self.now in
    let parts = c.args.parts.now in
    let k = c.loop-place.place in
    let at = read_got parts k c.index-parts-place.result c.loop-place-test.true c.index-parts-place.is in
    let at' = read_got parts k c.index-parts-place-else-not-is_part.result c.loop-place-test.true c.index-parts-place-else-not-is_part.is in
    let part = subst (IsPart now) (same_Some c.index-parts-place.result c.index-parts-place-else-not-is_part.result (sym at ∙ at')) (c.if-not-is_part.ensures.0 refl) in
    more_parts now parts k c.index-parts-place-else-not-is_part.result at' c.loop-place.invariant part (sym c.if-contains.ensures.value)
