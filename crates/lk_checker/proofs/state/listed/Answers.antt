use Rattle.std.proofs.Common.{◌∙◌, ◌++◌, ◌∷◌, [], ap, map, take}
use Rattle.lk_found.proofs.Completing.{taken_more}
use Rattle.lk_found.specs.Structs.{member_of}
use Rattle.lk_checker.proofs.state.listed.Goals as goal

pub loop-field-preserved : goal.loop-field-preserved
loop-field-preserved c =
    let fields = c.args.fields.now in
    let before = map member_of (take c.loop-field.field-index fields) in
    let item = c.field-item.result in
    c.in_ok-push.ensures.items ∙ ap (λ ms. ms ++ record { name = c.in_ok-name.name; ty = item.ty } ∷ []) c.loop-field.invariant ∙
    ap (λ name. before ++ record { name = name; ty = item.ty } ∷ []) c.in_ok-name.ensures ∙
    taken_more member_of fields c.loop-field.field-index item c.field-item.is c.loop-field-test.true
