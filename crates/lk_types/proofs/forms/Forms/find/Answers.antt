use Rattle.std.proofs.Common.{◌≡◌, Some, slice_get, sym, subst}
use Rattle.lk_types.specs.Forms.{IsAbsent}
use Rattle.lk_types.proofs.FormEq.{absent_from_lookup, key_found}
use Rattle.lk_types.proofs.forms.Forms.find.Goals as goal

pub returns-in-Some : goal.returns-in-Some
returns-in-Some g c =
    let entries = c.self.inside.entries in
    let kept = c.in-Some.field-0-2.now in
    let same = key_found entries c.args.form.now c.in-Some.field-0-1.now (sym c.in-Some.ensures.key) in (
      kept,
      subst (λ es. slice_get es c.in-Some.place ≡ Some (c.args.form.now, kept)) c.self.view_is
          (subst (λ form. slice_get entries.entries c.in-Some.place ≡ Some (form, kept)) (sym same) c.in-Some.ensures.entry),
    )

pub returns-in-None : goal.returns-in-None
returns-in-None g c =
    subst (λ es. IsAbsent es c.args.form.now) c.self.view_is (absent_from_lookup c.self.inside.entries.entries c.args.form.now (sym c.in-None.ensures.value))
