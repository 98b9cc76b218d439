-- Which steps a source has doesn't depend on the numbers, so each way to make them counts them.
use Rattle.std.proofs.Common.{arith, sym, subst, ◌∙◌, ◌≡◌, ◌<◌, ◌≤◌, inl, inr, ℕ, zero, suc, Bool, true, false, List, [], ◌∷◌, get_or, map, slice_get, Option, None, Some, Result, Ok, Err, IfOk, refl}
use Rattle.std.specs.Option.{is_some}
use Rattle.std.specs.Prelude.{if◌then◌else◌}
use Rattle.std.proofs.lemmas.Bool.{cases_lt, false≢true}
use Rattle.lk_lower_expr.specs.Naming.{no_local, node_of_local, slot_of_local}
use Rattle.lk_lower_expr.specs.Laid.{named}
use Rattle.lk_lower_expr.specs.declared.names.SourceNames.{SourceNames}
use Rattle.lk_lower_expr.specs.declared.step.Step.{Step}
use Rattle.lk_lower_unit.proofs.Alike.{AlikeNames, AlikeSlots}
use Rattle.lk_lower_unit.proofs.AlikeStatements.{body_alike, static_alike}
use Rattle.lk_lower_unit.proofs.Steps.{alike_view, earlier_view, step_of, view}
use Rattle.lk_lower_unit.specs.Bodies.{named_local, names_by_locals, walk_of_body, walk_of_static}
use Rattle.lk_lower_unit.specs.PointNumbers.{CountsUnit, SayOf, ordinal_of, slot_of}
use Rattle.lk_lower_unit.specs.Stands.{AreSteps, IsStepOf, NamesBy, PlacesBy, declared_node, of_body, of_static}
use Rattle.lk_lower_unit.specs.StepCounts.{CountsSteps}
use Rattle.lk_lower_unit.specs.declared.standing.StandingStep.{StandingStep}
use Rattle.lk_typed.specs.declared.expression.Storage.TheVariants as storage
use Rattle.lk_typed.specs.declared.unit.Local.{Local}
use Rattle.lk_typed.specs.declared.unit.TypedUnit.{TypedUnit}

-- ---- names that say the same

slots_alike : (s t : Option ℕ) → is_some s ≡ is_some t → AlikeSlots s t
slots_alike None None same = tt
slots_alike None (Some t) same = absurd (false≢true same)
slots_alike (Some s) None same = absurd (false≢true (sym same))
slots_alike (Some s) (Some t) same = tt

names_alike : (unit : TypedUnit) (n m : NamesBy) → SayOf unit n → SayOf unit m → (locals : List Local) → AlikeNames (n locals) (m locals)
names_alike unit n m left right locals = record {
  form = λ t. left.form locals t ∙ sym (right.form locals t);
  declared = λ l. left.declared locals l ∙ sym (right.declared locals l);
  slot = λ l. slots_alike _ _ (left.slot locals l ∙ sym (right.slot locals l));
}

-- those of tables do
declared_in : (by_node : List ℕ) (locals : List Local) (l : ℕ) → (node_of_local (get_or (map (named_local by_node) locals) l no_local)).ordinal ≡ ordinal_of (slice_get locals l)
declared_in by_node [] l = refl
declared_in by_node (local ∷ locals) zero = refl
declared_in by_node (local ∷ locals) (suc l) = declared_in by_node locals l

slot_here : (is_slot : Bool) (number : ℕ) → is_some (if is_slot then Some number else None) ≡ is_slot
slot_here true number = refl
slot_here false number = refl

slot_in : (by_node : List ℕ) (locals : List Local) (l : ℕ) → is_some (slot_of_local (get_or (map (named_local by_node) locals) l no_local)) ≡ slot_of (slice_get locals l)
slot_in by_node [] l = refl
slot_in by_node (local ∷ locals) zero = slot_here local.is_slot (get_or by_node local.ordinal 0)
slot_in by_node (local ∷ locals) (suc l) = slot_in by_node locals l

pub tables_say : (unit : TypedUnit) (source : SourceNames) → SayOf unit (names_by_locals unit.types source)
tables_say unit source = record { form = λ locals t. refl; declared = λ locals l. declared_in source.by_node locals l; slot = λ locals l. slot_in source.by_node locals l }

-- ---- steps

abbrev Found : NamesBy → PlacesBy → TypedUnit → (ℕ → ℕ) → ℕ → ℕ → ℕ → Type 0
Found names places unit function none o k = (is : Step) × (f : ℕ) × IsStepOf names places unit function none o k is f

module _ (unit : TypedUnit) (n m : NamesBy) (p q : PlacesBy) (function noitcnuf : ℕ → ℕ) (none enon : ℕ) (left : SayOf unit n) (right : SayOf unit m) where
  stands_alike : (o k : ℕ) (is : Step) (f : ℕ) → IsStepOf n p unit function none o k is f → Found m q unit noitcnuf enon o k
  stands_alike o k is f (of_body b body at step) =
      let found = alike_view o k is (walk_of_body n p body) (walk_of_body m q body)
      (body_alike (n body.locals) (m body.locals) (names_alike unit n m left right body.locals) (p body.locals) (q body.locals) body.ordinal body.spot body.block) (view step) in (
        found.0,
        noitcnuf b,
        of_body b body at (step_of o k found.0 (walk_of_body m q body) found.1),
      )
  stands_alike o k is f (of_static object entity there at step) =
      let found = alike_view o k is (walk_of_static n object entity) (walk_of_static m object entity)
      (static_alike (n []) (m []) (names_alike unit n m left right []) (declared_node object entity) ((n []).object (storage.Entity object.entity)) ((m []).object (storage.Entity object.entity)) object.parts) (view step) in (
        found.0,
        enon,
        of_static object entity there at (step_of o k found.0 (walk_of_static m object entity) found.1),
      )

module _ (unit : TypedUnit) (n : NamesBy) (p : PlacesBy) (function : ℕ → ℕ) (none : ℕ) where
  stands_earlier : (o j k : ℕ) (is : Step) (f : ℕ) → j < k → IsStepOf n p unit function none o k is f → Found n p unit function none o j
  stands_earlier o j k is f before (of_body b body at step) =
      let found = earlier_view o j k is (walk_of_body n p body) before (view step) in (found.0, function b, of_body b body at (step_of o j found.0 (walk_of_body n p body) found.1))
  stands_earlier o j k is f before (of_static object entity there at step) =
      let found = earlier_view o j k is (walk_of_static n object entity) before (view step) in (found.0, none, of_static object entity there at (step_of o j found.0 (walk_of_static n object entity) found.1))

  module _ (steps : List StandingStep) (counts : List ℕ) (are : AreSteps n p unit function none steps) (counted : CountsSteps steps counts) where
    only_these : (o k : ℕ) → Found n p unit function none o k → k < get_or counts o 0
    only_these o k found = counted.above (record { step = named o k found.0; function = found.1 }) (are.each o k found.0 found.1 found.2)

    last_of : (o k m : ℕ) → suc m ≡ get_or counts o 0 → Found n p unit function none o m
    last_of o k m is =
        let last = counted.reached o m is in
        let stands = are.only last.0 last.1 in (
          last.0.step.is,
          last.0.function,
          subst (λ i. IsStepOf n p unit function none o i last.0.step.is last.0.function) last.3 (subst (λ e. IsStepOf n p unit function none e last.0.step.step last.0.step.is last.0.function) last.2 stands),
        )

    up_to : (o k m : ℕ) → k ≤ m → Found n p unit function none o m → Found n p unit function none o k
    up_to o k m within found = elim (cases_lt k m) [
      | inl before ↦ stands_earlier o k m found.0 found.1 before found.2
      | inr behind ↦ subst (λ i. Found n p unit function none o i) (same behind) found
    ]
      where
        same : m ≤ k → m ≡ k
        same behind = omega (arith, within, behind)

    all_these : (o k : ℕ) (count : ℕ) → count ≡ get_or counts o 0 → k < count → Found n p unit function none o k
    all_these o k zero is within = absurd (omega (arith, within))
    all_these o k (suc m) is within = up_to o k m (omega (arith, within)) (last_of o k m is)

-- the counts of steps that were made with some numbers are those with any
pub unit_counted : (unit : TypedUnit) (source : SourceNames) (p : PlacesBy) (function : ℕ → ℕ) (none : ℕ) (steps : List StandingStep) (counts : List ℕ) →
    AreSteps (names_by_locals unit.types source) p unit function none steps → CountsSteps steps counts → CountsUnit unit counts
unit_counted unit source p function none steps counts are counted =
    let n = names_by_locals unit.types source in record {
      each = λ names places f other o k say within.
          let found = all_these unit n p function none steps counts are counted o k (get_or counts o 0) refl within in
          stands_alike unit n names p places function f none other (tables_say unit source) say o k found.0 found.1 found.2;
      only = λ names places f other o k is g say stands.
          only_these unit n p function none steps counts are counted o k (stands_alike unit names n places p f function other none say (tables_say unit source) o k is g stands);
    }

pub counted_if : {E : Type 0} (unit : TypedUnit) (source : SourceNames) (p : PlacesBy) (function : ℕ → ℕ) (none : ℕ) (list steps : List StandingStep) (result : Result (List ℕ) E) →
    AreSteps (names_by_locals unit.types source) p unit function none list → steps ≡ list → IfOk result (CountsSteps steps) → IfOk result (CountsUnit unit)
counted_if unit source p function none list steps (Ok counts) are same is = unit_counted unit source p function none list counts are (subst (λ xs. CountsSteps xs counts) same is)
counted_if unit source p function none list steps (Err e) are same is = tt
