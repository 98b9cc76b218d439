-- Points that are put at their numbers.
use Rattle.std.proofs.Common.{arith, ap, sym, subst, ◌∙◌, ◌≡◌, ◌<◌, ◌≤◌, ◌+◌, ◌++◌, inl, inr, ℕ, zero, suc, List, [], ◌∷◌, length, get_or, map, set, slice_get, Option, None, Some, refl, append_assoc, length-set}
use Rattle.std.specs.List.{Contains}
use Rattle.std.proofs.lemmas.Bool.{cases_lt}
use Rattle.std.proofs.lemmas.List.{length-replicate}
use Rattle.std.proofs.lemmas.List.Elements.{All-from_get_or, Contains-push_cases}
use Rattle.std.proofs.lemmas.Option.{get_or_from_slice_get, none-some, same_Some, slice_get_within}
use Rattle.std.specs.Prelude.{◌^◌, All, IsSome, replicate}
use Rattle.lk_facts.specs.declared.function.Function.{Function}
use Rattle.lk_facts.specs.declared.point.Point.{Point}
use Rattle.lk_facts.specs.declared.program.Program.{Program}
use Rattle.lk_lower_expr.specs.Lowering.{StandsIn, of_body, of_static}
use Rattle.lk_lower_expr.specs.Naming.{at_of}
use Rattle.lk_lower_expr.specs.declared.names.SourceNames.{SourceNames}
use Rattle.lk_lower_expr.specs.declared.step.Step.{Step}
use Rattle.lk_lower_parts.proofs.PlaceLists.{all_of}
use Rattle.lk_lower_parts.specs.Givens.{HasTables, at_node}
use Rattle.lk_lower_parts.specs.declared.names.Given.{Given}
use Rattle.lk_lower_unit.proofs.TablesOf.{function_there, tables_are}
use Rattle.lk_lower_unit.specs.Bodies.{IsSameSource}
use Rattle.lk_lower_unit.specs.Placed.{AreAllPlaced, AreCounted, AreFound, ArePlaced, ArePutBeside, AreStepsOf, HasNumber, PlacesAll, PlacesOne, PlacesSource, StandsAt, numbers_of, point_of}
use Rattle.lk_lower_unit.specs.Tables.{IsNumbered}
use Rattle.lk_lower_unit.specs.declared.standing.StandingStep.{StandingStep}
use Rattle.lk_types.specs.Table.{Table}

-- ---- one point

set_there : {A : Type 0} (xs : List A) (i : ℕ) (x : A) → i < length xs → slice_get (set xs i x) i ≡ Some x
set_there [] i x within = absurd (omega (arith, within))
set_there (y ∷ xs) zero x within = refl
set_there (y ∷ xs) (suc i) x within = set_there xs i x (omega (arith, within))

set_other : {A : Type 0} (xs : List A) (i n : ℕ) (x : A) → (n ≡ i → ⊥) → slice_get (set xs i x) n ≡ slice_get xs n
set_other [] i n x apart = refl
set_other (y ∷ xs) zero zero x apart = absurd (apart refl)
set_other (y ∷ xs) zero (suc n) x apart = refl
set_other (y ∷ xs) (suc i) zero x apart = refl
set_other (y ∷ xs) (suc i) (suc n) x apart = set_other xs i n x (λ same. apart (ap suc same))

pub kept_all : (old : List (Option Point)) → ArePutBeside old old
kept_all old = record { as_many = refl; kept = λ n point at. at }

pub then_kept : (old mid new : List (Option Point)) → ArePutBeside old mid → ArePutBeside mid new → ArePutBeside old new
then_kept old mid new first second = record { as_many = second.as_many ∙ first.as_many; kept = λ n point at. second.kept n point (first.kept n point at) }

-- a point is put where none stands
pub put_one : (old new : List (Option Point)) (i : ℕ) (point : Point) → i < length old → slice_get old i ≡ Some None → new ≡ set old i (Some point) → ArePutBeside old new × (slice_get new i ≡ Some (Some point))
put_one old new i point within free put = (record { as_many = ap length put ∙ length-set old i (Some point); kept = stays }, ap (λ xs. slice_get xs i) put ∙ set_there old i (Some point) within)
  where
    stays : (n : ℕ) (other : Point) → slice_get old n ≡ Some (Some other) → slice_get new n ≡ Some (Some other)
    stays n other at = ap (λ xs. slice_get xs n) put ∙ (set_other old i n (Some point) (λ same. none-some other (same_Some None (Some other) (sym free ∙ (ap (slice_get old) (sym same) ∙ at)))) ∙ at)

pub places_one : (names : SourceNames) (one : StandingStep) (old new : List (Option Point)) (i : ℕ) → i ≡ at_of names one.step.node one.step.step → i < length old → slice_get old i ≡ Some None → new ≡ set old i (Some (point_of one.step.is one.function)) → PlacesOne names one old new
places_one names one old new i is within free put =
    let done = put_one old new i (point_of one.step.is one.function) within free put in record { beside = done.0; there = subst (λ n. slice_get new n ≡ Some (Some (point_of one.step.is one.function))) is done.1 }

-- ---- several points

-- the steps before the rest of some stand at their numbers
abbrev pub DoneBefore : SourceNames → (all rest : List StandingStep) → List (Option Point) → Type 0
DoneBefore names all rest points = (done : List StandingStep) × (done ++ rest ≡ all) × ((one : StandingStep) → Contains done one → StandsAt names one points)

pub one_done : (names : SourceNames) (all rest next : List StandingStep) (one : StandingStep) (old new : List (Option Point)) → rest ≡ one ∷ next → PlacesOne names one old new → DoneBefore names all rest old → DoneBefore names all next new
one_done names all rest next one old new begins places was = (was.0 ++ (one ∷ []), append_assoc was.0 (one ∷ []) next ∙ (ap (λ xs. was.0 ++ xs) (sym begins) ∙ was.1), stands)
  where
    stands : (x : StandingStep) → Contains (was.0 ++ (one ∷ [])) x → StandsAt names x new
    stands x there = elim (Contains-push_cases was.0 one x there) [
      | inl earlier ↦ places.beside.kept (at_of names x.step.node x.step.step) (point_of x.step.is x.function) (was.2 x earlier)
      | inr same ↦ subst (λ y. StandsAt names y new) same places.there
    ]

none_done : (names : SourceNames) (all : List StandingStep) (points : List (Option Point)) → DoneBefore names all all points
none_done names all points = ([], refl, λ one there. absurd (omega (arith, there.1)))

-- ---- a program with so many functions

abbrev no_function : Function
no_function = record { name = []; root = 0; entry = 0; exit = 0; parameters = []; slots = []; result = 0; value_site = None }

abbrev no_types : Table
no_types = record { types = []; members = []; parts = []; least = [] }

abbrev program_with : ℕ → Program
program_with n = record { points = []; functions = replicate n no_function; roots = []; types = no_types; places = []; locations = 0; initials = []; main = 0; sites = 0 }

-- ---- one source

module _ (given : Given) (table : Table) (s : ℕ) (names later : SourceNames) (steps : List StandingStep) (found : AreFound given table) (tables : HasTables given s names) (are : AreStepsOf given table s names steps) (same : IsSameSource names later) where
  numbered : (program : Program) → given.functions.now.count ≡ length program.functions → IsNumbered given.whole.now (numbers_of given table) program s are.0.unit (numbers_of given table).node (get_or given.functions.now.first s 0) given.functions.now.count names
  numbered program counted = record {
    linked = are.0;
    at = are.1;
    is = refl;
    tables = tables_are given table found s are.0 names are.1 tables;
    nodes = refl;
    functions = λ b. sym (function_there given table found s b (slice_get_within given.whole.now.sources s are.0 are.1));
    no_function = counted;
  }

  -- the number of a step by the names
  number_is : (o k : ℕ) → at_of later o k ≡ (numbers_of given table).point s o k
  number_is o k = ap (λ bases. get_or bases o 0 + k) same.bases ∙ (tables_are given table found s are.0 names are.1 tables).point o k

  pub places_source : (old new : List (Option Point)) → PlacesAll later steps old new → PlacesSource given table s old new
  places_source old new places = record {
    beside = places.beside;
    placed = λ program o k is function counted stands.
        let in_all = (are.2 given.whole.now (numbers_of given table) program s (numbered program counted)).each o k is function stands in
        subst (λ n. slice_get new n ≡ Some (Some (point_of is function))) (number_is o k) (places.there _ in_all);
  }

  -- each step has one of the numbers that are counted
  pub steps_numbered : (count : ℕ) → AreCounted given table count → All (HasNumber later count) steps
  steps_numbered count counted = all_of (HasNumber later count) steps has
    where
      program : Program
      program = program_with given.functions.now.count

      below : (one : StandingStep) → Contains steps one → (numbers_of given table).point s one.step.node one.step.step < 0 + count
      below one there =
          (counted.order program).below s one.step.node one.step.step
          (one.step.is, one.function, (are.2 given.whole.now (numbers_of given table) program s (numbered program (sym (length-replicate given.functions.now.count no_function)))).only one there)

      small : (k : ℕ) → k < 65536 → k < 2 ^ 31
      small k few = omega (arith, few)

      has : (one : StandingStep) → Contains steps one → HasNumber later count one
      has one there =
          let less : at_node given.points.now s one.step.node + one.step.step < 0 + count = below one there in
          record {
            few = small one.step.step (omega (arith, less, counted.few));
            within = subst (λ n. n < count) (sym (number_is one.step.node one.step.step)) (omega (arith, less));
          }

-- ---- all sources

stands_inside : (given : Given) (table : Table) (program : Program) (t o k : ℕ) (is : Step) (function : ℕ) → StandsIn given.whole.now (numbers_of given table) program t o k is function → t < length given.whole.now.sources
stands_inside given table program t o k is _ (of_body linked b body at at_b step) = slice_get_within given.whole.now.sources t linked at
stands_inside given table program t o k is _ (of_static linked object entity at there at_e step) = slice_get_within given.whole.now.sources t linked at

pub source_more : (given : Given) (table : Table) (s : ℕ) (old new : List (Option Point)) → PlacesSource given table s old new → ((t : ℕ) → t < s → ArePlaced given table t old) → (t : ℕ) → t < s + 1 → ArePlaced given table t new
source_more given table s old new places was t within = elim (cases_lt t s) [
  | inl before ↦ λ program o k is function counted stands. places.beside.kept ((numbers_of given table).point t o k) (point_of is function) (was t before program o k is function counted stands)
  | inr not ↦ subst (λ n. ArePlaced given table n new) (sym (same not)) places.placed
]
  where
    same : s ≤ t → t ≡ s
    same not = omega (arith, within, not)

known_at : (all : List Point) (n : ℕ) (point : Point) → slice_get (map Some all) n ≡ Some (Some point) → slice_get all n ≡ Some point
known_at [] n point at = absurd (none-some (Some point) at)
known_at (one ∷ all) zero point at = same_Some (Some one) (Some point) at
known_at (one ∷ all) (suc n) point at = known_at all n point at

length_known : (all : List Point) → length (map Some all) ≡ length all
length_known [] = refl
length_known (one ∷ all) = ap suc (length_known all)

pub all_placed : (given : Given) (table : Table) (count s : ℕ) (points : List (Option Point)) (all : List Point) → length given.whole.now.sources ≤ s → length points ≡ count → ((t : ℕ) → t < s → ArePlaced given table t points) → map Some all ≡ points → AreAllPlaced given table count all
all_placed given table count s points all past many placed known = record {
  as_many = sym (length_known all) ∙ (ap length known ∙ many);
  placed = λ program t o k is function counted stands.
      known_at all ((numbers_of given table).point t o k) (point_of is function)
      (subst (λ xs. slice_get xs ((numbers_of given table).point t o k) ≡ Some (Some (point_of is function))) (sym known) (placed t (there program t o k is function stands) program o k is function counted stands));
}
  where
    there : (program : Program) (t o k : ℕ) (is : Step) (function : ℕ) → StandsIn given.whole.now (numbers_of given table) program t o k is function → t < s
    there program t o k is function stands = let h = stands_inside given table program t o k is function stands in omega (arith, h, past)

-- where each step stands at its number, each number is that of a point
pub all_known : (given : Given) (table : Table) (count s : ℕ) (points : List (Option Point)) → AreCounted given table count → length given.whole.now.sources ≤ s → length points ≡ count → ((t : ℕ) → t < s → ArePlaced given table t points) →
    All IsSome points
all_known given table count s points counted past many placed = All-from_get_or IsSome points None some
  where
    program : Program
    program = program_with given.functions.now.count

    some : (n : ℕ) → n < length points → IsSome (get_or points n None)
    some n within =
        let found = (counted.order program).onto n (omega (arith, within, many)) in
        let stands = found.3.2 in
        let here = stands_inside given table program found.0 found.1 found.2 found.3.0 found.3.1 stands in
        let at = placed found.0 (omega (arith, here, past)) program found.1 found.2 found.3.0 found.3.1 (sym (length-replicate given.functions.now.count no_function)) stands in
        let there = subst (λ m. slice_get points m ≡ Some (Some (point_of found.3.0 found.3.1))) (found.4 ∙ from_zero n) at in
        subst IsSome (sym (get_or_from_slice_get points n (Some (point_of found.3.0 found.3.1)) None there)) refl
      where
        from_zero : (n : ℕ) → 0 + n ≡ n
        from_zero n = omega arith
