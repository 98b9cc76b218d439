use Rattle.std.proofs.Common.{◌≡◌, Some, subst}
use Rattle.std.proofs.lemmas.Result.{on_ok_weaker}
use Rattle.lk_types.specs.Table.{IsKnown}
use Rattle.lk_typed.specs.Meaning.{meaning}
use Rattle.lk_typed.specs.Ty.{Int}
use Rattle.lk_elab_init.specs.Giving.{element_in}
use Rattle.lk_elaborate.proofs.MakingStatics.{text_put}
use Rattle.lk_elaborate.proofs.statics.put_text.Goals as goal

pub returns : goal.returns
returns c =
    let elements = c.in_ok-elements.elements in
    let is = c.in_ok-elements.ensures in
    let table = c.table.ensures.value in
    on_ok_weaker c.put_bytes.result (λ h. (
      h.0,
      h.1,
      text_put c.args.walk.now c.args.given.now c.args.bytes.now elements c.list.result.now h.0 c.list.ensures
          (subst (λ table. IsKnown table elements.ty) table is.known) (subst (λ table. meaning table elements.ty ≡ Int elements.kind) table is.kind)
          (subst (λ table. element_in (meaning table c.args.given.now.ty) ≡ Some (Int elements.kind)) table is.array) h.2,
    )) c.put_bytes.ensures
