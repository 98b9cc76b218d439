use Rattle.std.proofs.Common.{◌∙◌, List, ap}
use Rattle.std.proofs.lemmas.Result.{IfOk-at_ok}
use Rattle.lk_base.specs.declared.cell.CellStep.{CellStep}
use Rattle.lk_typed.specs.declared.initialiser.StaticPart.{StaticPart as Part}
use Rattle.lk_elaborate.specs.declared.static_values.Begun.{Begun}
use Rattle.lk_elaborate.proofs.statics.begun_part.Goals as goal

pub returns : goal.returns
returns c =
    let given = c.args.given.now in
    let path = IfOk-at_ok _ c.in_ok-path.ensures.made c.path_of-made.ensures ∙ c.list.ensures in
    let by_path : List CellStep → Part = λ path. record { path = path; ty = given.ty; value = c.in_ok-path.begun.value; pointer = c.in_ok-path.begun.pointer } in
    let by_begun : Begun → Part = λ begun. record { path = given.path; ty = given.ty; value = begun.value; pointer = begun.pointer } in
    ap by_path path ∙ ap by_begun c.in_ok-path.ensures.other
