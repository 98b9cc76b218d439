use Rattle.std.proofs.Common.{refl}
use Rattle.lk_lower_expr.specs.Owned.{of_static_parts, owned_in}
use Rattle.lk_lower_parts.proofs.Adding.{loop_more}
use Rattle.lk_lower_parts.specs.Found.{all_found, form_in}
use Rattle.lk_lower_parts.proofs.owned.Finding.push_static.Goals as goal

pub loop-part-preserved : goal.loop-part-preserved
loop-part-preserved c =
    let form = form_in c.args.self.now in
    loop_more (of_static_parts form) (λ one. owned_in form one.pointer) (λ x xs. refl) c.args.parts.now c.loop-part.part-index c.part-item.result _ (all_found c.loop-part.out.items) (all_found c.push_optional.new.out.items) c.loop-part-test.true c.part-item.is c.loop-part.invariant c.in_ok-push_optional.ensures
