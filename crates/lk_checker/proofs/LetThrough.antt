-- A value that is handed on where an outcome is fine.
use Rattle.std.proofs.Common.{◌≡◌, Option, Some, None, Result, Ok, Err, IfOk, OnOk, MatchOption, refl, subst, sym}
use Rattle.std.specs.Result.{result_and}

module _ {T U E : Type 0} where
  at_outcome : (outcome : Result T E) (value : U) (P : U → Type 0) → OnOk outcome (P value) → IfOk (result_and outcome (Ok value)) P
  at_outcome (Ok x) value P holds = holds
  at_outcome (Err e) value P holds = tt

  -- what holds of a value where an outcome is fine holds of what is handed on
  pub let_through : (outcome : Result T E) (value : U) (result : Result U E) → result ≡ result_and outcome (Ok value) → (P : U → Type 0) → OnOk outcome (P value) → IfOk result P
  let_through outcome value result is P holds = subst (λ r. IfOk r P) (sym is) (at_outcome outcome value P holds)

  fact_at : (outcome : Result T E) (value : U) (P : Type 0) → OnOk outcome P → OnOk (result_and outcome (Ok value)) P
  fact_at (Ok x) value P holds = holds
  fact_at (Err e) value P holds = tt

  -- what holds where an outcome is fine holds where a value is handed on
  pub still_there : (outcome : Result T E) (value : U) (result : Result U E) → result ≡ result_and outcome (Ok value) → (P : Type 0) → OnOk outcome P → OnOk result P
  still_there outcome value result is P holds = subst (λ r. OnOk r P) (sym is) (fact_at outcome value P holds)

module _ {T E : Type 0} where
  -- what holds of a value where nothing speaks against it holds of what is handed on
  pub unless_told : (told : Option E) (value : T) (result : Result T E) → MatchOption told (result ≡ Ok value) (λ e. result ≡ Err e) → (P : T → Type 0) → (told ≡ None → P value)
      → IfOk result P
  unless_told None value result is P holds = subst (λ r. IfOk r P) (sym is) (holds refl)
  unless_told (Some e) value result is P holds = subst (λ r. IfOk r P) (sym is) tt
