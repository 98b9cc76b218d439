-- No place of a program that is made of sources has two numbers.
use Rattle.std.proofs.Common.{arith, sym, subst, ◌∙◌, ◌≡◌, ◌<◌, ◌≤◌, inl, inr, ℕ, true, Some}
use Rattle.std.specs.Prelude.{slice_get}
use Rattle.std.proofs.lemmas.Bool.{cases_lt, false≢true}
use Rattle.std.proofs.lemmas.Option.{same_Some, slice_get_within}
use Rattle.lk_base.specs.declared.spot.Spot.{Spot}
use Rattle.lk_facts.specs.LabelRules.{form_of}
use Rattle.lk_facts.specs.Places.{AreDifferent}
use Rattle.lk_facts.specs.declared.place.Place.{Place}
use Rattle.lk_facts.specs.declared.program.Program.{Program}
use Rattle.lk_facts.specs.declared.root.Root.{Root}
use Rattle.lk_lower_expr.specs.Lowering.{Numbers}
use Rattle.lk_lower_expr.specs.Programs.{ArePlaces, IsPlaceBefore, IsSpotBefore}
use Rattle.lk_typed.specs.declared.whole.Whole.{Whole}
use Rattle.lk_types.specs.Objects.{is_mutex, is_value}
use Rattle.lk_types.specs.declared.c_type.CType.{CType}
use Rattle.lk_types.specs.declared.c_type.CType.TheVariants.{Void, Int, ThreadId, Mutex, Cond, Pointer, Array, Struct, Function, Opaque}

-- a mutex holds no value
no_value_mutex : (form : CType) → is_value form ≡ true → is_mutex form ≡ true → ⊥
no_value_mutex Void value mutex = false≢true value
no_value_mutex (Int k) value mutex = false≢true mutex
no_value_mutex ThreadId value mutex = false≢true mutex
no_value_mutex Mutex value mutex = false≢true value
no_value_mutex Cond value mutex = false≢true value
no_value_mutex (Pointer t) value mutex = false≢true mutex
no_value_mutex (Array t n) value mutex = false≢true value
no_value_mutex (Struct s) value mutex = false≢true value
no_value_mutex (Function result params dots) value mutex = false≢true value
no_value_mutex (Opaque n) value mutex = false≢true value

no_spot_before_itself : (spot : Spot) → IsSpotBefore spot spot → ⊥
no_spot_before_itself spot (inl file) = omega (arith, file)
no_spot_before_itself spot (inr other) = elim other.1 [ inl line ↦ omega (arith, line) | inr col ↦ (let less = col.1 in omega (arith, less)) ]

module _ (whole : Whole) (numbers : Numbers) (program : Program) (are : ArePlaces whole numbers program) where
  not_before_itself : (place : Place) → IsPlaceBefore whole numbers program place place → ⊥
  not_before_itself place is =
      let one : is.ra ≡ is.rb = same_Some is.ra is.rb (sym is.of_a ∙ is.of_b) in elim is.before [
        | inl spot ↦ no_spot_before_itself is.rb.spot (subst (λ (root : Root). IsSpotBefore root.spot is.rb.spot) one spot)
        | inr other ↦ elim other.1 [ inl root ↦ omega (arith, root) | inr part ↦ (let less = part.1 in omega (arith, less)) ]
      ]

  -- a place has no second number: two of locations, and two of lock places, are of places one before the other, and no place is both
  none_later : (n m : ℕ) (place : Place) → slice_get program.places n ≡ Some place → slice_get program.places m ≡ Some place → n < m → ⊥
  none_later n m place at also less =
      let m_within = slice_get_within program.places m place also in
      let n_within = slice_get_within program.places n place at in elim (cases_lt n program.locations) [
        | inl location ↦ elim (cases_lt m program.locations) [
          | inl other ↦ not_before_itself place (are.locations n m place place location other less at also)
          | inr behind ↦ no_value_mutex (form_of program.types place.node) ((are.values place).0 (n, location, at)).1 ((are.mutexes place).0 (m, (behind, m_within), also)).1
        ]
        | inr behind ↦ not_before_itself place (are.locks n m place place (behind, n_within) (further behind, m_within) less at also)
      ]
    where
      further : program.locations ≤ n → program.locations ≤ m
      further behind = omega (arith, behind, less)

  pub places_differ : AreDifferent program.places
  places_differ n m place at also = elim (cases_lt n m) [
    | inl less ↦ absurd (none_later n m place at also less)
    | inr behind ↦ elim (cases_lt m n) [ inl less ↦ absurd (none_later m n place also at less) | inr before ↦ omega (arith, behind, before) ]
  ]
