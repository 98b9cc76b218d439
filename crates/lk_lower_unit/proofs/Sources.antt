-- The steps of a source, one by one.
use Rattle.std.proofs.Common.{arith, ap, sym, subst, ◌∙◌, ◌≡◌, ◌+◌, inl, inr, ℕ, zero, suc, List, [], ◌∷◌, ◌++◌, slice_get, Option, None, Some, refl}
use Rattle.std.proofs.lemmas.Option.{none-some, same_Some}
use Rattle.lk_lower_expr.specs.Laid.{laid, named}
use Rattle.lk_lower_expr.specs.Walk.{Walk}
use Rattle.lk_lower_expr.specs.declared.step.NamedStep.{NamedStep}
use Rattle.lk_lower_expr.specs.declared.step.Step.{Step}
use Rattle.lk_lower_unit.proofs.Steps.{Among, View, among, among_either, among_left, among_map, among_mapped, among_right, contained, laid_only, laid_there, step_of, view}
use Rattle.lk_lower_unit.specs.Bodies.{all_standing, standing, steps_of_bodies, steps_of_static, steps_of_statics, walk_of_body, walk_of_static}
use Rattle.lk_lower_unit.specs.Stands.{AreSteps, IsStepOf, NamesBy, PlacesBy, of_body, of_static}
use Rattle.lk_lower_unit.specs.declared.standing.StandingStep.{StandingStep}
use Rattle.lk_typed.specs.declared.entity.Entity.{Entity}
use Rattle.lk_typed.specs.declared.initialiser.StaticObject.{StaticObject}
use Rattle.lk_typed.specs.declared.unit.Body.{Body}
use Rattle.lk_typed.specs.declared.unit.TypedUnit.{TypedUnit}

abbrev this_step : (o k : ℕ) → Step → ℕ → StandingStep
this_step o k is f = record { step = named o k is; function = f }

-- a step with its name is among those of a walk
abbrev Seen : StandingStep → Walk → Type 0
Seen x walk = View x.step.node x.step.step x.step.is walk

walk_only : (f : ℕ) (walk : Walk) (x : StandingStep) → Among (all_standing f walk) x → (f ≡ x.function) × Seen x walk
walk_only f walk x is =
    let found = among_mapped (standing f) (laid walk []) x is in
    (ap (λ (y : StandingStep). y.function) found.2, subst (λ (s : NamedStep). View s.node s.step s.is walk) (ap (λ (y : StandingStep). y.step) found.2) (only found.0 found.1))
  where
    only : (y : NamedStep) → Among (laid walk []) y → View y.node y.step y.is walk
    only y there = elim (laid_only walk [] y there) [ inl seen ↦ seen | inr not ↦ absurd not ]

walk_there : (f : ℕ) (walk : Walk) (o k : ℕ) (is : Step) → View o k is walk → Among (all_standing f walk) (this_step o k is f)
walk_there f walk o k is seen = among_map (standing f) (laid walk []) (named o k is) (laid_there walk [] o k is seen)

module _ (names : NamesBy) (places : PlacesBy) where
  abbrev OfBody : ℕ → List Body → StandingStep → Type 0
  OfBody first bodies x = (b : ℕ) × (body : Body) × (slice_get bodies b ≡ Some body) × (first + b ≡ x.function) × Seen x (walk_of_body names places body)

  later_body : (first : ℕ) (body : Body) (bodies : List Body) (x : StandingStep) → OfBody (suc first) bodies x → OfBody first (body ∷ bodies) x
  later_body first body bodies x found = (suc found.0, found.1, found.2, next found.0 found.3, found.4)
    where
      next : (b : ℕ) → suc first + b ≡ x.function → first + suc b ≡ x.function
      next b e = omega (arith, e)

  first_body : (first : ℕ) (body : Body) (bodies : List Body) (x : StandingStep) → (first ≡ x.function) × Seen x (walk_of_body names places body) → OfBody first (body ∷ bodies) x
  first_body first body bodies x found = (0, body, refl, none ∙ found.0, found.1)
    where
      none : first + 0 ≡ first
      none = omega arith

  bodies_only : (bodies : List Body) (first : ℕ) (x : StandingStep) → Among (steps_of_bodies names places first bodies) x → OfBody first bodies x
  bodies_only [] first x is = absurd is
  bodies_only (body ∷ bodies) first x is = elim (among_either (all_standing first (walk_of_body names places body)) (steps_of_bodies names places (suc first) bodies) x is) [
    | inl there ↦ first_body first body bodies x (walk_only first (walk_of_body names places body) x there)
    | inr there ↦ later_body first body bodies x (bodies_only bodies (suc first) x there)
  ]

  bodies_there : (bodies : List Body) (first b : ℕ) (body : Body) (o k : ℕ) (is : Step) → slice_get bodies b ≡ Some body → View o k is (walk_of_body names places body) →
      Among (steps_of_bodies names places first bodies) (this_step o k is (first + b))
  bodies_there [] first b body o k is at seen = absurd (none-some body at)
  bodies_there (one ∷ bodies) first zero body o k is at seen =
      among_left (all_standing first (walk_of_body names places one)) (steps_of_bodies names places (suc first) bodies) (this_step o k is (first + 0))
      (subst (λ f. Among (all_standing first (walk_of_body names places one)) (this_step o k is f)) none
      (walk_there first (walk_of_body names places one) o k is (subst (λ y. View o k is (walk_of_body names places y)) (sym (same_Some one body at)) seen)))
    where
      none : first ≡ first + 0
      none = omega arith
  bodies_there (one ∷ bodies) first (suc b) body o k is at seen =
      among_right (all_standing first (walk_of_body names places one)) (steps_of_bodies names places (suc first) bodies) (this_step o k is (first + suc b))
      (subst (λ f. Among (steps_of_bodies names places (suc first) bodies) (this_step o k is f)) next (bodies_there bodies (suc first) b body o k is at seen))
    where
      next : suc first + b ≡ first + suc b
      next = omega arith

module _ (names : NamesBy) (none : ℕ) (entities : List Entity) where
  abbrev OfStatic : List StaticObject → StandingStep → Type 0
  OfStatic objects x = (object : StaticObject) × (entity : Entity) × Among objects object × (slice_get entities object.entity ≡ Some entity) × (none ≡ x.function) × Seen x (walk_of_static names object entity)

  static_only : (objects : List StaticObject) (object : StaticObject) (found : Option Entity) (x : StandingStep) → slice_get entities object.entity ≡ found → Among objects object →
      Among (steps_of_static names none object found) x → OfStatic objects x
  static_only objects object None x at there is = absurd is
  static_only objects object (Some entity) x at there is = let seen = walk_only none (walk_of_static names object entity) x is in (object, entity, there, at, seen.0, seen.1)

  later_static : (object : StaticObject) (objects : List StaticObject) (x : StandingStep) → OfStatic objects x → OfStatic (object ∷ objects) x
  later_static object objects x found = (found.0, found.1, inr found.2, found.3, found.4, found.5)

  statics_only : (objects : List StaticObject) (x : StandingStep) → Among (steps_of_statics names none entities objects) x → OfStatic objects x
  statics_only [] x is = absurd is
  statics_only (object ∷ objects) x is = elim (among_either (steps_of_static names none object (slice_get entities object.entity)) (steps_of_statics names none entities objects) x is) [
    | inl there ↦ static_only (object ∷ objects) object (slice_get entities object.entity) x refl (inl refl) there
    | inr there ↦ later_static object objects x (statics_only objects x there)
  ]

  statics_there : (objects : List StaticObject) (object : StaticObject) (entity : Entity) (o k : ℕ) (is : Step) → Among objects object → slice_get entities object.entity ≡ Some entity →
      View o k is (walk_of_static names object entity) → Among (steps_of_statics names none entities objects) (this_step o k is none)
  statics_there [] object entity o k is there at seen = absurd there
  statics_there (one ∷ objects) object entity o k is (inl same) at seen =
      among_left (steps_of_static names none one (slice_get entities one.entity)) (steps_of_statics names none entities objects) (this_step o k is none)
      (subst (λ y. Among (steps_of_static names none y (slice_get entities y.entity)) (this_step o k is none)) (sym same)
      (subst (λ found. Among (steps_of_static names none object found) (this_step o k is none)) (sym at) (walk_there none (walk_of_static names object entity) o k is seen)))
  statics_there (one ∷ objects) object entity o k is (inr there) at seen =
      among_right (steps_of_static names none one (slice_get entities one.entity)) (steps_of_statics names none entities objects) (this_step o k is none) (statics_there objects object entity o k is there at seen)

-- ---- all steps

module _ (names : NamesBy) (places : PlacesBy) (unit : TypedUnit) (first none : ℕ) where
  abbrev all_steps : List StandingStep
  all_steps = steps_of_statics names none unit.entities unit.objects ++ steps_of_bodies names places first unit.bodies

  abbrev Stands : ℕ → ℕ → Step → ℕ → Type 0
  Stands = IsStepOf names places unit (λ b. first + b) none

  there : (o k : ℕ) (is : Step) (f : ℕ) → Stands o k is f → Among all_steps (this_step o k is f)
  there o k is f (of_body b body at step) =
      among_right (steps_of_statics names none unit.entities unit.objects) (steps_of_bodies names places first unit.bodies) (this_step o k is (first + b))
      (bodies_there names places unit.bodies first b body o k is at (view step))
  there o k is f (of_static object entity among_ at step) =
      among_left (steps_of_statics names none unit.entities unit.objects) (steps_of_bodies names places first unit.bodies) (this_step o k is none)
      (statics_there names none unit.entities unit.objects object entity o k is (among unit.objects object among_) at (view step))

  from_body : (x : StandingStep) → OfBody names places first unit.bodies x → Stands x.step.node x.step.step x.step.is x.function
  from_body x found =
      subst (λ f. Stands x.step.node x.step.step x.step.is f) found.3 (of_body found.0 found.1 found.2 (step_of x.step.node x.step.step x.step.is (walk_of_body names places found.1) found.4))

  from_static : (x : StandingStep) → OfStatic names none unit.entities unit.objects x → Stands x.step.node x.step.step x.step.is x.function
  from_static x found =
      subst (λ f. Stands x.step.node x.step.step x.step.is f) found.4
      (of_static found.0 found.1 (contained unit.objects found.0 found.2) found.3 (step_of x.step.node x.step.step x.step.is (walk_of_static names found.0 found.1) found.5))

  only : (x : StandingStep) → Among all_steps x → Stands x.step.node x.step.step x.step.is x.function
  only x is = elim (among_either (steps_of_statics names none unit.entities unit.objects) (steps_of_bodies names places first unit.bodies) x is) [
    | inl here ↦ from_static x (statics_only names none unit.entities unit.objects x here)
    | inr here ↦ from_body x (bodies_only names places unit.bodies first x here)
  ]

  pub are_steps : (steps : List StandingStep) → steps ≡ all_steps → AreSteps names places unit (λ b. first + b) none steps
  are_steps steps same = record {
    each = λ o k is f stands. contained steps (this_step o k is f) (subst (λ xs. Among xs (this_step o k is f)) (sym same) (there o k is f stands));
    only = λ x is. only x (subst (λ xs. Among xs x) same (among steps x is));
  }
