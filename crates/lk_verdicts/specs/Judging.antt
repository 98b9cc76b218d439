-- What racing accesses have in common, and the state that it gives. Private contracts alone cite these words.
use Rattle.std.specs.Prelude.{◌≡◌, ℕ, Bool, List, [], ◌∷◌}
use Rattle.std.specs.List.{list_all}
use Rattle.lk_facts.specs.declared.verdict.Racing.{Racing}
use Rattle.lk_facts.specs.declared.verdict.VerdictState.{VerdictState}
use Rattle.lk_facts.specs.declared.verdict.VerdictState.TheVariants.{Guarded, Unshared, Suspect}
use Rattle.lk_sets.specs.Ids.{has_id, IsSetOf}

-- whether a number is in the lock sets of all accesses
abbrev pub in_all : List Racing → ℕ → Bool
in_all accesses q = list_all (λ r. has_id r.locks q) accesses

-- the numbers of the lock sets of all accesses, none where there is no access
abbrev pub IsCommon : List Racing → List ℕ → Type 0
IsCommon [] ids = ids ≡ []
IsCommon (first ∷ others) ids = IsSetOf (in_all (first ∷ others)) ids

-- the state by the accesses and what their lock sets have in common
abbrev pub state_of : List Racing → List ℕ → VerdictState
state_of [] ids = Unshared
state_of (first ∷ others) [] = Suspect
state_of (first ∷ others) (q ∷ qs) = Guarded
