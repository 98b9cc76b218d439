-- What is found.
use Rattle.std.proofs.Common.{IsTrue, IfSome, Option, None, Some, false, is_some, ◌≡◌, ◌↔◌, ℕ, refl, subst, sym}
use Rattle.std.proofs.lemmas.Bool.{false≢true}
use Rattle.lk_facts.specs.Program.{value_type_at}
use Rattle.lk_facts.specs.Typed.{GivesForm, IsForm, PointsTo}
use Rattle.lk_types.specs.Equal.{IsAlike}
use Rattle.std.proofs.lemmas.Option.{same_Some}
use Rattle.lk_facts.specs.declared.program.Program.{Program}
use Rattle.lk_types.specs.Equal.IsEqualBut.{same}
use Rattle.lk_types.specs.declared.c_type.CType.TheVariants.{Pointer}

-- something is there, and has the property that it has where it is there
pub found : {A : Type 0} (P : A → Type 0) (o : Option A) → IfSome o P → IsTrue (is_some o) → (x : A) × P x
found P None h yes_ = absurd (false≢true yes_)
found P (Some x) h yes_ = (x, h)

-- where a pointer's target is found, the point points to it
pub points_there : (program : Program) (p t : ℕ) (o : Option ℕ) → value_type_at program p ≡ Some t → IfSome o (λ target. IsForm program.types t (Pointer target)) → IfSome o (PointsTo program p)
points_there program p t None at form = tt
points_there program p t (Some u) at form = (u, (t, at, form), same refl)

-- what never holds is told by false
pub never : {P : Type 0} → (P → ⊥) → IsTrue false ↔ P
never refuted = ((λ h. absurd (false≢true h)), (λ p. absurd (refuted p)))

-- the target that is found is equal, but for the sizes of arrays, to each type to which the point points
pub found_alike : (program : Program) (p t u : ℕ) → ((v : ℕ) → GivesForm program p (Pointer v) → Some t ≡ Some v) → PointsTo program p u → IsAlike program.types.types t u
found_alike program p t u only points = subst (λ x. IsAlike program.types.types x u) (sym (same_Some t points.0 (only points.0 points.1))) points.2
