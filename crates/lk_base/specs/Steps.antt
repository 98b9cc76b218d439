-- Steps to parts of objects: when two are one, and that such steps are hashed alike.
use Rattle.std.specs.Prelude.{ℕ, ◌≡◌, Bool, true, List, [], ◌∷◌, nat_eq}
use Rattle.std.specs.Cmp.Lexicographic.{pointwise}
use Rattle.std.specs.Hash as fed
use Rattle.std.specs.Hash.{Alike}
use Rattle.std.proofs.Common.{ap, arith}
use Rattle.std.proofs.lemmas.Grind.{common_steps}
use Rattle.lk_base.specs.declared.cell.CellStep.{CellStep}
use Rattle.lk_base.specs.declared.cell.CellStep.TheVariants.{Field, Index}

-- what tells one step from another
abbrev pub code_of : CellStep → List ℕ
code_of (Field k) = 0 ∷ k ∷ []
code_of (Index i) = 1 ∷ i ∷ []

abbrev pub is_step : CellStep → CellStep → Bool
is_step a b = pointwise nat_eq (code_of a) (code_of b)

-- the number of the member or element to which a step leads
abbrev pub number_of : CellStep → ℕ
number_of (Field k) = k
number_of (Index i) = i

one_number : (a b : CellStep) → is_step a b ≡ true → number_of a ≡ number_of b
one_number (Field a) (Field b) h = grind (arith, common_steps)
one_number (Field a) (Index b) h = grind (arith, common_steps)
one_number (Index a) (Field b) h = grind (arith, common_steps)
one_number (Index a) (Index b) h = grind (arith, common_steps)

pub steps_alike : Alike is_step (λ step. fed.u64 (number_of step))
steps_alike = record { fed = λ a b h. ap fed.u64 (one_number a b h) }
