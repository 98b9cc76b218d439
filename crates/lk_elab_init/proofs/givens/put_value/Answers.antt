use Rattle.std.proofs.Common.{◌∙◌, ◌∷◌, [], ap, subst, sym}
use Rattle.std.proofs.lemmas.Result.{on_ok_weaker}
use Rattle.lk_types.specs.Table.{IsKnown}
use Rattle.lk_typed.specs.Initialised.{bytes_given}
use Rattle.lk_typed.specs.Meaning.{meaning}
use Rattle.lk_elab_init.proofs.Giving.{text_put, value_put}
use Rattle.lk_elab_init.specs.Giving.{count_in, part_given}
use Rattle.lk_elab_init.specs.declared.givens.Beginning.TheVariants as begins
use Rattle.lk_elab_init.proofs.givens.put_value.Goals as goal

pub returns-in-Some : goal.returns-in-Some
returns-in-Some c =
    let e = c.args.e in
    let count = sym c.in-Some.is ∙ (c.in_ok-count.ensures.value ∙ ap (λ table. count_in (meaning table c.args.ty)) c.table.ensures.value) in
    let known = subst (λ table. IsKnown table c.args.ty) c.table.ensures.value c.in_ok-count.ensures.known in
    on_ok_weaker c.put_text.result
    (λ h. (
      part_given c.args.path.now c.args.ty (begins.Bytes e.now.spot e.now.ordinal (bytes_given c.in-Some.count h.0)) ∷ [],
      h.2,
      text_put c.args.walk.now c.args.ty c.args.path.now e known c.in-Some.count h.0 count h.1,
    ))
    c.put_text.ensures

pub returns-in-None : goal.returns-in-None
returns-in-None c =
    let none = sym c.in-None.is ∙ (c.in_ok-count.ensures.value ∙ ap (λ table. count_in (meaning table c.args.ty)) c.table.ensures.value) in
    let known = subst (λ table. IsKnown table c.args.ty) c.table.ensures.value c.in_ok-count.ensures.known in
    on_ok_weaker c.put_part.result
    (λ h. (
      part_given c.args.path.now c.args.ty (begins.Value c.args.e) ∷ [],
      h,
      value_put c.args.walk.now c.args.ty c.args.path.now c.args.e known c.requires none,
    ))
    c.put_part.ensures
