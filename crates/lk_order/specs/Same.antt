-- Which names of a function mean one and the same mutex each time that it runs.
use Rattle.std.specs.Prelude.{◌≡◌, ℕ, Bool, true, Some}
use Rattle.lk_facts.specs.Basis.{Basis}
use Rattle.lk_facts.specs.Flow.{MeansOnly, Up}
use Rattle.lk_facts.specs.Labels.{is_origin_at}
use Rattle.lk_facts.specs.Program.{value_site_of}
use Rattle.lk_facts.specs.declared.way.Way.{Way}
use Rattle.lk_facts.specs.declared.way.Way.TheVariants.{Through, AsValue}
use Rattle.lk_order.specs.Mutexes.{Enters}

module _ (basis : Basis) (linear : ℕ → Bool) where
  -- both labels can mean this one linear lock place alone
  pub record MeanOneLock (x y : ℕ) : Type 0 where
    pub place : ℕ
    pub first : MeansOnly basis.flow x place
    pub second : MeansOnly basis.flow y place
    pub one : linear place ≡ true

  -- outside they are one label each, and both can mean one linear lock place alone
  pub record MeanOneLockOver (way : Way) (x y : ℕ) : Type 0 where
    pub first : ℕ
    pub second : ℕ
    pub first_up : Up basis.flow way x first
    pub second_up : Up basis.flow way y second
    pub mean : MeanOneLock first second

  -- f has a site: a call or creation, or its own where it is used as a value
  pub data HasSite (f : ℕ) : Type 0 where
    entered : {p h i : ℕ} → Enters basis p h (Through i) f → HasSite f
    value : {i : ℕ} → value_site_of basis.program f ≡ Some i → HasSite f

  -- not both labels are origins
  abbrev pub NotBothOrigins : (x y : ℕ) → Type 0
  NotBothOrigins x y = is_origin_at basis.labels x ≡ true → is_origin_at basis.labels y ≡ true → ⊥

  mutual
    -- Same: each time that f runs, the two labels mean one mutex. Both can mean one linear lock place
    -- alone, or whoever goes into f has one label for each of them, and these are the same.
    pub data Same : (f x y : ℕ) → Type 0 where
      one_lock : {f x y : ℕ} → MeanOneLock x y → Same f x y
      outside : {f x y : ℕ} → NotBothOrigins x y → HasSite f →
          ((p h i : ℕ) → Enters basis p h (Through i) f → SameOver h (Through i) x y) →
          ((i : ℕ) → value_site_of basis.program f ≡ Some i → MeanOneLockOver (AsValue i) x y) → Same f x y

    -- x and y are one label each outside, and these are the same in h
    pub data SameOver : (h : ℕ) (way : Way) (x y : ℕ) → Type 0 where
      over : {h x y m n : ℕ} {way : Way} → Up basis.flow way x m → Up basis.flow way y n → Same h m n →
          SameOver h way x y
