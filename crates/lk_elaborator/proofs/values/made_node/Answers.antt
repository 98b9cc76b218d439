use Rattle.std.proofs.Common.{refl, sym, subst}
use Rattle.std.proofs.lemmas.Result.{IfOk-weaker}
use Rattle.lk_elaborator.specs.Standing.{IsConvertedBy}
use Rattle.lk_elaborator.proofs.values.made_node.Goals as goal

pub returns-in-Some : goal.returns-in-Some
returns-in-Some c = IfOk-weaker c.convert.result _ _ (λ t is. record {
  value = c.in_ok-value.value;
  valued = c.in_ok-value.ensures;
  converted = subst (λ to. IsConvertedBy to c.in_ok-value.value t) (sym c.in-Some.is) is;
}) c.convert.ensures

pub returns-in-None : goal.returns-in-None
returns-in-None c = record {
  value = c.in_ok-value.value;
  valued = c.in_ok-value.ensures;
  converted = subst (λ to. IsConvertedBy to c.in_ok-value.value c.in_ok-value.value) (sym c.in-None.is) refl;
}
