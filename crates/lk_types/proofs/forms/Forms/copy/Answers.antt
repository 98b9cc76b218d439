use Rattle.std.proofs.Common.{◌≡◌, ◌∙◌, Some, slice_get, sym, subst}
use Rattle.lk_types.specs.Forms.{IsAbsent}
use Rattle.lk_types.proofs.FormEq.{absent_before, copied_more}
use Rattle.lk_types.proofs.forms.Forms.copy.Goals as goal

pub push-requires : goal.push-requires
push-requires g c =
    let form = c.in_ok-copy.field-0 in
    let kept = c.at.result.1.now in
    let at = subst (λ f. slice_get c.args.self.now c.loop-place.place ≡ Some (f, kept)) (sym c.in_ok-copy.ensures) c.at.ensures in
    subst (λ fs. IsAbsent fs form) (sym c.loop-place.invariant) (absent_before c.args.self.now c.len-place-end.ensures.apart c.loop-place.place form kept at)

pub loop-place-preserved : goal.loop-place-preserved
loop-place-preserved g c =
    let form = c.in_ok-copy.field-0 in
    let kept = c.at.result.1.now in
    let at = subst (λ f. slice_get c.args.self.now c.loop-place.place ≡ Some (f, kept)) (sym c.in_ok-copy.ensures) c.at.ensures in
    c.in_ok-push.ensures.ok ∙ copied_more c.args.self.now c.loop-place.forms c.loop-place.place (form, kept) at c.loop-place.invariant
