use Rattle.std.proofs.Common.{inl, inr, pos, sym, ap, subst}
use Rattle.lk_typed.specs.StaticInits.{IsTruthOf}
use Rattle.lk_typed.specs.StaticInits.IsTruthOf.{of_null, of_function, of_object}
use Rattle.lk_elab_init.specs.Reaching.{address_in}
use Rattle.lk_elaborate.proofs.static_values.truth_of.Goals as goal

pub returns-in-Null : goal.returns-in-Null
returns-in-Null c = λ tables. subst (λ a. IsTruthOf tables a (pos 0)) (sym (ap address_in c.in-Null.is)) of_null

pub returns-in-Function : goal.returns-in-Function
returns-in-Function c = λ tables. elim c.in-Function.is [
  | inl function ↦ subst (λ a. IsTruthOf tables a (pos 1)) (sym (ap address_in function.1)) of_function
  | inr inside ↦ subst (λ a. IsTruthOf tables a (pos 1)) (sym (ap address_in inside.1)) of_object
]

pub returns-in-Function-2 : goal.returns-in-Function-2
returns-in-Function-2 c = λ tables. elim c.in-Function.is [
  | inl function ↦ subst (λ a. IsTruthOf tables a (pos 1)) (sym (ap address_in function.1)) of_function
  | inr inside ↦ subst (λ a. IsTruthOf tables a (pos 1)) (sym (ap address_in inside.1)) of_object
]
