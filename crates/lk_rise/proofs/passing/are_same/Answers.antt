use Rattle.std.proofs.Common.{◌≡◌, ◌∙◌, true, subst, sym}
use Rattle.lk_facts.specs.contracts.way.WayPartialEq.TheImpl as way_test
use Rattle.lk_rise.proofs.WayLemmas.{same_way, way_itself}
use Rattle.lk_rise.proofs.passing.are_same.Goals as goal

pub returns : goal.returns
returns c = (
  λ same. same_way c.args.a c.args.b (sym c.eq.ensures ∙ same),
  λ is. c.eq.ensures ∙ subst (λ w. way_test.eq-value.it c.args.a w ≡ true) is (way_itself c.args.a),
)
