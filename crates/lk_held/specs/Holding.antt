-- What points do to the locks that are held.
use Rattle.std.specs.Prelude.{◌≡◌, ◌⊎◌, ℕ, Bool, true, false, not, ◌&&◌, if◌then◌else◌, List, [], Option, Some, None, Contains, MatchOption, length, ⊤}
use Rattle.std.specs.List.{filter, list_any}
use Rattle.std.specs.List.Sorted.{IsStrictlyIncreasing}
use Rattle.std.specs.Option.{option_map_or}
use Rattle.lk_facts.specs.Basis.{Basis}
use Rattle.lk_facts.specs.Doing.{Runs}
use Rattle.lk_facts.specs.Flow.{RisesAs}
use Rattle.lk_facts.specs.Held.{Released, MayDrop, NotTaken, RunsNone, NotHeld, Adds, IsBrought, Keeps}
use Rattle.lk_facts.specs.Labels.{is_lock_at}
use Rattle.lk_facts.specs.Origins.{OriginTable}
use Rattle.lk_facts.specs.Program.{live_at, entry_of, exit_of}
use Rattle.lk_facts.specs.Reach.{IsNext}
use Rattle.lk_facts.specs.declared.program.Program.{Program}
use Rattle.lk_facts.specs.declared.way.Way.{Way}
use Rattle.lk_held.specs.Acts.{OneRuns}
use Rattle.lk_held.specs.States.{holds}
use Rattle.lk_held.specs.declared.states.States.{States}
use Rattle.lk_links.specs.declared.link.Link.{Link}
use Rattle.lk_sets.specs.Ids.{has_id, IsSetOf}
use Rattle.lk_sets.specs.Rows.{has, row_of}

-- whether the two labels may mean one place
abbrev pub clash_at : OriginTable → ℕ → ℕ → Bool
clash_at origins x y = list_any (λ o. has origins.all y o) (row_of origins.all x)

-- the locks that clash with none of the others
abbrev pub apart_from : OriginTable → List ℕ → List ℕ → List ℕ
apart_from origins others locks = filter (λ x. not (list_any (clash_at origins x) others)) locks

-- whether the number is in the set, where there is one
abbrev pub is_in : Option (List ℕ) → ℕ → Bool
is_in set x = option_map_or (λ ids. has_id ids x) set true

module _ (basis : Basis) where
  -- the locks of a list that p may not drop
  pub record IsKept (p : ℕ) (locks ids : List ℕ) : Type 0 where
    pub sorted : IsStrictlyIncreasing ids
    pub among : (x : ℕ) → has_id ids x ≡ true → has_id locks x ≡ true
    pub kept : (x : ℕ) → has_id ids x ≡ true → MayDrop basis (Released basis) p x → ⊥
    pub lost : (x : ℕ) → has_id locks x ≡ true → has_id ids x ≡ false → MayDrop basis (Released basis) p x

  -- by the table p doesn't add x: it takes no lock that is x, and some function that it
  -- runs, if any, returns without one
  pub data Omits (at : ℕ → ℕ → Bool) (p x : ℕ) : Type 0 where
    runs_none : NotTaken basis p x → RunsNone basis p → Omits at p x
    not_from : {f g : ℕ} {way : Way} → NotTaken basis p x → Runs basis p f way g →
        ((y e : ℕ) → is_lock_at basis.labels y ≡ true → RisesAs basis.flow way y x →
        exit_of basis.program g ≡ Some e → at e y ≡ false) → Omits at p x

  -- by the table the function of the link returns with a lock that is x outside, or without one
  abbrev pub Brings : (at : ℕ → ℕ → Bool) → ℕ → Link → Type 0
  Brings at x link = IsBrought basis at link.way link.below x

  abbrev pub Lacks : (at : ℕ → ℕ → Bool) → ℕ → Link → Type 0
  Lacks at x link = (y e : ℕ) → is_lock_at basis.labels y ≡ true → RisesAs basis.flow link.way y x →
      exit_of basis.program link.below ≡ Some e → at e y ≡ false

  -- no link runs a function
  abbrev pub NoneRuns : List Link → Type 0
  NoneRuns links = (link : Link) → Contains links link → link.starts ≡ false → ⊥

  -- what each function returns with that a link runs: there is one, and what isn't brought one lacks
  pub record AreMet (at : ℕ → ℕ → Bool) (links : List Link) (ids : List ℕ) : Type 0 where
    pub some : OneRuns links (λ link. ⊤)
    pub brought : (x : ℕ) (link : Link) → has_id ids x ≡ true → Contains links link →
        link.starts ≡ false → Brings at x link
    pub lacking : (x : ℕ) → has_id ids x ≡ false → OneRuns links (Lacks at x)

  -- what the function of the link returns with too, of the labels before
  pub record Meets (at : ℕ → ℕ → Bool) (link : Link) (old new : Option (List ℕ)) : Type 0 where
    pub ids : List ℕ
    pub is : new ≡ Some ids
    pub among : (x : ℕ) → has_id ids x ≡ true → is_in old x ≡ true
    pub brought : (x : ℕ) → has_id ids x ≡ true → Brings at x link
    pub lacking : (x : ℕ) → has_id ids x ≡ false → (is_in old x ≡ false) ⊎ Lacks at x link

  abbrev pub AreBrought : (at : ℕ → ℕ → Bool) → List Link → Option (List ℕ) → Type 0
  AreBrought at links found = MatchOption found (NoneRuns links) (AreMet at links)

  -- the labels that p adds
  pub record AreAdded (at : ℕ → ℕ → Bool) (p : ℕ) (ids : List ℕ) : Type 0 where
    pub added : (x : ℕ) → has_id ids x ≡ true → Adds basis at p x
    pub omitted : (x : ℕ) → has_id ids x ≡ false → Omits at p x

  -- the locks that are held once p has run
  pub record AreAfter (at : ℕ → ℕ → Bool) (p : ℕ) (ids : List ℕ) : Type 0 where
    pub locks : (x : ℕ) → has_id ids x ≡ true → is_lock_at basis.labels x ≡ true
    pub held : (x : ℕ) → has_id ids x ≡ true → Adds basis at p x ⊎ Keeps basis (Released basis) at p x
    pub omitted : (x : ℕ) → is_lock_at basis.labels x ≡ true → has_id ids x ≡ false → Omits at p x
    pub lost : (x : ℕ) → is_lock_at basis.labels x ≡ true → has_id ids x ≡ false →
        (at p x ≡ false) ⊎ MayDrop basis (Released basis) p x

-- a set of locks for each point, none where nothing is held by the rules
pub record AreStates (basis : Basis) (states : States) : Type 0 where
  pub locks : IsSetOf (is_lock_at basis.labels) states.locks
  pub all : length states.sets.items ≡ length basis.program.points
  pub inside : (p x : ℕ) → holds states p x ≡ true → is_lock_at basis.labels x ≡ true
  pub live : (p x : ℕ) → holds states p x ≡ true → live_at basis.program p ≡ true
  pub entries : (f p x : ℕ) → entry_of basis.program f ≡ Some p → holds states p x ≡ false

-- some of the points lose what isn't in the set, and nothing else changes
pub record Sheds (points ids : List ℕ) (old new : States) : Type 0 where
  pub locks : new.locks ≡ old.locks
  pub long : length new.sets.items ≡ length old.sets.items
  pub fewer : (p x : ℕ) → holds new p x ≡ true → holds old p x ≡ true
  pub gone : (p x : ℕ) → holds old p x ≡ true → holds new p x ≡ false →
      (has_id points p ≡ true) × (has_id ids x ≡ false)

-- the points hold only what is in the set
abbrev pub AreWithin : List ℕ → List ℕ → States → Type 0
AreWithin points ids states = (p x : ℕ) → has_id points p ≡ true → holds states p x ≡ true →
    has_id ids x ≡ true

module _ (basis : Basis) where
  -- what was taken away isn't held on some way
  abbrev pub AreLost : States → Type 0
  AreLost states = (p x : ℕ) → is_lock_at basis.labels x ≡ true → holds states p x ≡ false → NotHeld basis p x

  -- the states stay such sets, and lose only what isn't held
  pub record Loses (old new : States) : Type 0 where
    pub states : AreStates basis old → AreStates basis new
    pub lost : AreLost old → AreLost new

  -- what a successor of p holds, where p is live, p adds or keeps
  abbrev pub HasPassed : ℕ → States → Type 0
  HasPassed p states =
      live_at basis.program p ≡ true → (q x : ℕ) → IsNext basis.program p q → holds states q x ≡ true →
      Adds basis (holds states) p x ⊎ Keeps basis (Released basis) (holds states) p x

  -- the locks that are held at each point
  pub record AreHeld (found : States) : Type 0 where
    pub states : AreStates basis found
    pub lost : AreLost found
    pub passed : (p : ℕ) → HasPassed p found

-- all locks where a point is live and no entry, and none elsewhere
abbrev pub first_set : Program → List ℕ → ℕ → Option (List ℕ)
first_set program entries p = if live_at program p && not (has_id entries p) then None else Some []
