use Rattle.std.proofs.Common.{refl}
use Rattle.std.proofs.lemmas.Result.{IfOk-weaker}
use Rattle.lk_typed.specs.Elaborated.{InPlace}
use Rattle.lk_typed.specs.Nodes.{AnExpression}
use Rattle.lk_elaborator.proofs.Growing.{grows_then, leads_before, told_on}
use Rattle.lk_elaborator.proofs.Knowing.{both_ok, on_ok}
use Rattle.lk_elab_expr.proofs.Within.{told_of}
use Rattle.lk_elab_expr.proofs.expressions.given_value.Goals as goal

pub returns-in-Ok-clause-made : goal.returns-in-Ok-clause-made
returns-in-Ok-clause-made c = IfOk-weaker c.part_node.result _ _ (λ t two at_end env told role tables leads.
    let p : InPlace = (env, c.args.e.now) in
    let old = c.args.walk.now in
    let middle = c.given_part.new.walk in
    let is = two.1 at_end p refl (told_on old middle c.in-Ok.ensures.grows at_end env (AnExpression c.args.e.now) told) (c.in-Ok.ensures.role env.role told.ready role) tables leads in
    c.in-Ok.ensures.converted p refl (told_of at_end old p told) tables (leads_before middle c.part_node.new.walk tables two.0 leads) c.args.folded t is)
    (both_ok c.part_node.result _ _ c.part_node.ensures.grows c.part_node.ensures.made)

pub returns-in-Ok-clause-grows : goal.returns-in-Ok-clause-grows
returns-in-Ok-clause-grows c = on_ok c.part_node.result _ _ (λ second. grows_then c.args.walk.now c.given_part.new.walk c.part_node.new.walk c.in-Ok.ensures.grows second) c.part_node.ensures.grows
