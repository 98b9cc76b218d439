-- Rules of which none is broken.
use Rattle.std.proofs.Common.{◌≡◌, Bool, true, false, List, [], ◌∷◌, ◌++◌, refl}
use Rattle.lk_base.specs.declared.code.Code.{Code}
use Rattle.lk_typed.specs.DeclaratorRules.{unless}
use Rattle.lk_typed.specs.Faults.{breach}

-- nothing before these, where both are nothing
pub none_before : {A : Type 0} (xs ys : List A) → xs ++ ys ≡ [] → xs ≡ []
none_before [] ys none = refl
none_before (x ∷ xs) ys none = absurd (cons_nil none)
  where
    cons_nil : x ∷ (xs ++ ys) ≡ [] → ⊥
    cons_nil none = cc

-- and nothing behind them
pub none_behind : {A : Type 0} (xs ys : List A) → xs ++ ys ≡ [] → ys ≡ []
none_behind [] ys none = none
none_behind (x ∷ xs) ys none = absurd (cons_nil none)
  where
    cons_nil : x ∷ (xs ++ ys) ≡ [] → ⊥
    cons_nil none = cc

-- a rule that isn't broken holds
pub rule_holds : (b : Bool) (code : Code) → unless b code ≡ [] → b ≡ true
rule_holds true code none = refl
rule_holds false code none = absurd (cons_nil none)
  where
    cons_nil : breach code ∷ [] ≡ [] → ⊥
    cons_nil none = cc
