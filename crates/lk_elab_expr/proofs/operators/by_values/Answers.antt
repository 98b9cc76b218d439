use Rattle.std.proofs.Common.{refl}
use Rattle.lk_elaborator.proofs.Growing.{leads_before, true_on}
use Rattle.lk_elab_expr.proofs.operators.by_values.Goals as goal

pub returns-clause-values : goal.returns-clause-values
returns-clause-values c = record {
  form_is = refl;
  left_role = c.in_ok-first.ensures.role;
  right_role = c.in_ok-second.ensures.role;
  left = λ p same true_of tables leads folded t is.
      c.in_ok-first.ensures.value p same true_of tables (leads_before c.value_of.new.walk c.value_of-2.new.walk tables c.in_ok-second.ensures.grows leads) folded t is;
  right = λ p same true_of tables leads folded t is.
      c.in_ok-second.ensures.value p same (true_on c.args.walk.now c.value_of.new.walk c.in_ok-first.ensures.grows p true_of) tables leads folded t is;
}
