use Rattle.std.proofs.Common.{ap, ◌∙◌, ◌++◌, refl}
use Rattle.lk_lower_expr.specs.Owned.{of_inits, of_parts}
use Rattle.lk_lower_parts.proofs.Adding.{loop_more}
use Rattle.lk_lower_parts.specs.Found.{all_found, form_in}
use Rattle.lk_lower_parts.proofs.owned.Finding.push_inits.Goals as goal

pub loop-init-preserved : goal.loop-init-preserved
loop-init-preserved c =
    let form = form_in c.args.self.now in
    loop_more (of_inits form) (λ one. of_parts form one.named) (λ x xs. refl) c.args.inits.now c.loop-init.init-index c.init-item.result _ (all_found c.loop-init.out.items) (all_found c.push_parts.new.out.items) c.loop-init-test.true c.init-item.is c.loop-init.invariant
    (c.in_ok-push_parts.ensures ∙ ap (λ parts. all_found c.loop-init.out.items ++ of_parts form parts) c.list.ensures)
