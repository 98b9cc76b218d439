use Rattle.std.proofs.Common.{◌≡◌, ◌<◌, ◌+◌, ◌∙◌, ◌++◌, ◌∷◌, [], Some, length, sym, ap, subst, All, arith}
use Rattle.std.proofs.lemmas.List.Elements.{All-push}
use Rattle.lk_facts.specs.Program.{function_at}
use Rattle.lk_facts.specs.declared.program.Program.{Program}
use Rattle.lk_rise.proofs.PointLemmas.{functions_more}
use Rattle.lk_rise.proofs.point_items.functions_of_points.Goals as goal

pub loop-point-preserved : goal.loop-point-preserved
loop-point-preserved c =
    let program = c.args.facts.now.program in
    let f = c.function.result in
    let of = subst (λ (q : Program). function_at q c.loop-point.point ≡ Some f) c.points-in-loop-point.ensures.value c.function.ensures.value in
    let few : f < length program.functions + 1 = omega (arith, c.function.ensures.in_range, ap (λ (q : Program). length q.functions) c.points-in-loop-point.ensures.value) in
    record {
      keys = c.in_ok-push.ensures.items ∙ ap (λ xs. xs ++ f ∷ []) c.loop-point.invariant.keys ∙ sym (functions_more program c.loop-point.point f of);
      below = subst (All (λ g. g < length program.functions + 1)) (sym c.in_ok-push.ensures.items) (All-push (λ g. g < length program.functions + 1) c.loop-point.keys.items f c.loop-point.invariant.below few);
    }
