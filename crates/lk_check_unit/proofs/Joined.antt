-- The type of what is declared before, where a name has it too.
use Rattle.std.proofs.Common.{◌≡◌, ◌∙◌, List, ℕ, true, Option, Some, None, sym, ap}
use Rattle.std.specs.Prelude.{if◌then◌else◌}
use Rattle.lk_typed.specs.Declarations.{composite_if_equal, old_type, type_with_old}
use Rattle.lk_typed.specs.Env.{Env, look_up}
use Rattle.lk_typed.specs.Redeclared.{is_linked_alike}
use Rattle.lk_typed.specs.Ty.{Ty}
use Rattle.lk_typed.specs.declared.entity.Linkage.{Linkage}

pub join_is : (env : Env) (name : List ℕ) (reach : Linkage) (t : Ty) (old : Option Ty) → is_linked_alike reach reach ≡ true → old ≡ old_type (look_up env name) →
    type_with_old env name reach (Some t) ≡ Some (composite_if_equal t old)
join_is env name reach t old linked is = ap (λ b. Some (composite_if_equal t (if b then old_type (look_up env name) else None))) linked ∙ ap (λ o. Some (composite_if_equal t o)) (sym is)
