use Rattle.lk_typed.specs.Meaning.{meaning_of}
use Rattle.lk_elab_expr.proofs.Sizing.{one_placed}
use Rattle.lk_elab_expr.proofs.allocations.sized_allocation.Goals as goal

pub returns-in_ok-element-in-len1-clause-sizes : goal.returns-in_ok-element-in-len1-clause-sizes
returns-in_ok-element-in-len1-clause-sizes c = λ at_end p f ps call stands.
    let old = c.args.walk.now in
    let at = one_placed at_end old p f c.args.arguments.now c.size-item.result ps c.in-len1.len_at_least c.in-len1.len_below c.size-item.is call in
    record {
      element = meaning_of old.types c.in_ok-size-in-len1.size.element;
      known = c.in_ok-element-in-len1.ensures.known;
      means = c.in_ok-element-in-len1.ensures.means;
      sizes = (at.only, at.are, c.in_ok-size-in-len1.ensures at_end at.only at.is at.told p.0.role stands);
    }
