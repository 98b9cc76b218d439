use Rattle.std.proofs.Common.{◌≡◌, ◌<◌, length, Some, refl, sym, subst, ap, ◌∙◌, arith}
use Rattle.std.specs.Prelude.{All, slice_get}
use Rattle.std.proofs.lemmas.Option.{slice_get_read}
use Rattle.lk_facts.proofs.LiveLemmas.{found_more, next_reached, followed_more, listed_within}
use Rattle.lk_facts.proofs.Sets.{All-read}
use Rattle.lk_facts.specs.Marks.{AreMarked}
use Rattle.lk_facts.proofs.live.follow.Goals as goal

pub loop-k-init : goal.loop-k-init
loop-k-init c = (c.requires.found, (λ i p point less. absurd (omega arith)))

pub bounds-points-p : goal.bounds-points-p
bounds-points-p c =
    let within : c.loop-k.k < length c.loop-k.marks.found.items = omega (arith, c.if-k-len.false, c.len.ensures, c.loop-k.marks.found.ok.0) in
    let at : slice_get c.loop-k.marks.found.items c.loop-k.k ≡ Some c.index-p.result.now = slice_get_read c.loop-k.marks.found.items _ _ _ refl within c.index-p.ensures in
    listed_within c.args.points.now c.args.functions.now c.loop-k.marks c.loop-k.k c.index-p.result.now c.loop-k.invariant.0 at

pub put_all-requires : goal.put_all-requires
put_all-requires c =
    let within : c.loop-k.k < length c.loop-k.marks.found.items = omega (arith, c.if-k-len.false, c.len.ensures, c.loop-k.marks.found.ok.0) in
    let at : slice_get c.loop-k.marks.found.items c.loop-k.k ≡ Some c.index-p.result.now = slice_get_read c.loop-k.marks.found.items _ _ _ refl within c.index-p.ensures in
    let bound = listed_within c.args.points.now c.args.functions.now c.loop-k.marks c.loop-k.k c.index-p.result.now c.loop-k.invariant.0 at in
    let each = All-read (λ point. All (λ q. q < length c.args.points.now) point.next) c.args.points.now _ c.index-points-p.result c.requires.steps.next bound c.index-points-p.is in
    subst (λ n. All (λ q. q < n) c.list.result.now) (sym c.loop-k.invariant.0.long)
    (subst (λ xs. All (λ q. q < length c.args.points.now) xs) (sym (c.list.ensures ∙ ap (λ x. x.next) (sym c.index-points-p.is))) each)

pub loop-k-preserved : goal.loop-k-preserved
loop-k-preserved c =
    let within : c.loop-k.k < length c.loop-k.marks.found.items = omega (arith, c.if-k-len.false, c.len.ensures, c.loop-k.marks.found.ok.0) in
    let at : slice_get c.loop-k.marks.found.items c.loop-k.k ≡ Some c.index-p.result.now = slice_get_read c.loop-k.marks.found.items _ _ _ refl within c.index-p.ensures in
    let bound = listed_within c.args.points.now c.args.functions.now c.loop-k.marks c.loop-k.k c.index-p.result.now c.loop-k.invariant.0 at in
    let is : slice_get c.args.points.now c.index-p.result.now ≡ Some c.index-points-p.result = slice_get_read c.args.points.now _ _ _ refl bound c.index-points-p.is in
    let step : AreMarked c.index-points-p.result.next c.loop-k.marks c.put_all.new.self =
    subst (λ xs. AreMarked xs c.loop-k.marks c.put_all.new.self) (c.list.ensures ∙ ap (λ x. x.next) (sym c.index-points-p.is)) c.in_ok-put_all.ensures in (
      found_more c.args.points.now c.args.functions.now c.index-points-p.result.next _ _
          (next_reached c.args.points.now c.args.functions.now c.loop-k.marks c.loop-k.k c.index-p.result.now c.index-points-p.result c.loop-k.invariant.0 at is) step c.loop-k.invariant.0,
      followed_more c.args.points.now _ _ c.loop-k.k c.index-p.result.now c.index-points-p.result at is step c.loop-k.invariant.1,
    )
