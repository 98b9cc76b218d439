-- Whether parts have types.
use Rattle.std.proofs.Common.{◌≡◌, ◌∙◌, ◌++◌, Bool, true, false, List, [], ◌∷◌, refl, ap}
use Rattle.std.specs.Prelude.{◌&&◌}
use Rattle.lk_typed.specs.NodeRules.{are_typed, has_type}
use Rattle.lk_typed.specs.Nodes.{Placed}

pub typed_both : (ps qs : List Placed) → are_typed (ps ++ qs) ≡ (are_typed ps && are_typed qs)
typed_both [] qs = refl
typed_both (p ∷ ps) qs = ap (λ b. has_type p.env p.node && b) (typed_both ps qs) ∙ by (has_type p.env p.node)
  where
    by : (b : Bool) → (b && (are_typed ps && are_typed qs)) ≡ ((b && are_typed ps) && are_typed qs)
    by true = refl
    by false = refl
