use Rattle.std.proofs.Common.{refl}
use Rattle.lk_typed.specs.Meaning.{meaning}
use Rattle.lk_elab_expr.proofs.Sizing.{two_placed}
use Rattle.lk_elab_expr.proofs.allocations.zeroed_allocation.Goals as goal

pub returns-in_ok-element-in-len2-clause-sizes : goal.returns-in_ok-element-in-len2-clause-sizes
returns-in_ok-element-in-len2-clause-sizes c = λ at_end p f ps call.
    let new = c.zeroed_element.new.walk in
    let at = two_placed at_end c.args.walk.now p f c.args.arguments.now c.size-item.result ps c.in-len2.len_at_least c.in-len2.len_below c.size-item.is call in
    record {
      element = meaning new.types c.in_ok-element-in-len2.element;
      known = c.in_ok-element-in-len2.ensures.known;
      means = refl;
      sizes = (at.first, at.second, at.are, c.in_ok-element-in-len2.ensures.element at_end at.second at.is at.told, refl);
    }
