-- The sites of calls, creations and functions that are used as values.
use Rattle.std.specs.Prelude.{◌≡◌, ◌↔◌, ◌<◌, ◌+◌, ◌&&◌, ℕ, Bool, true, false, List, [], ◌∷◌, Option, None, Some, length, slice_get}
use Rattle.std.specs.Option.{is_some, option_map}
use Rattle.lk_facts.specs.Effects.{effect_of, entered}
use Rattle.lk_facts.specs.Lowered.{IsSiteOfOne, IsUsedAsValue}
use Rattle.lk_facts.specs.Program.{value_site_of}
use Rattle.lk_facts.specs.declared.action.Action.TheVariants.{Func}
use Rattle.lk_facts.specs.declared.function.Function.{Function}
use Rattle.lk_facts.specs.declared.point.Point.{Point}
use Rattle.lk_facts.specs.declared.program.Program.{Program}
use Rattle.lk_lower_expr.specs.Lowering.{Numbers}
use Rattle.lk_lower_expr.specs.Programs.{AreSites}
use Rattle.lk_typed.specs.declared.whole.Whole.{Whole}

-- a point that has a site: a live call or creation
abbrev pub has_site : Point → Bool
has_site point = point.live && is_some (entered (effect_of point.action))

abbrev pub with_site : Option ℕ → Point → Point
with_site site point =
    record {
      action = point.action;
      value = point.value;
      next = point.next;
      function = point.function;
      spot = point.spot;
      live = point.live;
      site = site;
    }

-- the site of one that has it, where `n` is the next
abbrev pub site_by : (has : Bool) → (n : ℕ) → Option ℕ
site_by true n = Some n
site_by false n = None

abbrev pub behind_site : (has : Bool) → (n : ℕ) → ℕ
behind_site true n = n + 1
behind_site false n = n

-- points of which those that have sites are numbered in their order from `n` on; the others have none
abbrev pub sited : (n : ℕ) → List Point → List Point
sited n [] = []
sited n (point ∷ others) =
    with_site (site_by (has_site point) n) point ∷ sited (behind_site (has_site point) n) others

-- the number behind those of their sites
abbrev pub behind_sites : (n : ℕ) → List Point → ℕ
behind_sites n [] = n
behind_sites n (point ∷ others) = behind_sites (behind_site (has_site point) n) others

abbrev pub with_value_site : Option ℕ → Function → Function
with_value_site site is =
    record {
      name = is.name;
      root = is.root;
      entry = is.entry;
      exit = is.exit;
      parameters = is.parameters;
      slots = is.slots;
      result = is.result;
      value_site = site;
    }

-- the same of functions, where it is said of each whether it has a site
abbrev pub valued : (n : ℕ) → (used : List Bool) → List Function → List Function
valued n [] functions = functions
valued n (has ∷ used) [] = []
valued n (has ∷ used) (function ∷ others) =
    with_value_site (site_by has n) function ∷ valued (behind_site has n) used others

abbrev pub behind_values : (n : ℕ) → (used : List Bool) → ℕ
behind_values n [] = n
behind_values n (has ∷ used) = behind_values (behind_site has n) used

-- a point before k gives a pointer to the function
abbrev pub IsNamedBefore : List Point → (k f : ℕ) → Type 0
IsNamedBefore points k f =
    (p : ℕ) × (p < k) × (option_map (λ point. point.action) (slice_get points p) ≡ Some (Func f))

-- it is said of each of so many functions whether a point gives a pointer to it
abbrev pub AreUsed : List Point → (count : ℕ) → (used : List Bool) → Type 0
AreUsed points count used =
    (f : ℕ) → f < count → (slice_get used f ≡ Some true) ↔ IsNamedBefore points (length points) f

-- these have their sites, which are so many
pub record HaveSites (points sited_points : List Point) (functions sited_functions : List Function)
    (count : ℕ) : Type 0 where
  pub used : List Bool
  pub as_many : length used ≡ length functions
  pub points_ : sited_points ≡ sited 0 points
  pub functions_ : sited_functions ≡ valued (behind_sites 0 points) used functions
  pub count_ : count ≡ behind_values (behind_sites 0 points) used
  -- in each program of them they are its sites
  pub are : (whole : Whole) (numbers : Numbers) (program : Program) → program.points ≡ sited_points →
      program.functions ≡ sited_functions → AreSites whole numbers program
  -- each number below that of the sites is the site of exactly one of them
  pub one : (program : Program) → program.points ≡ sited_points → program.functions ≡ sited_functions →
      program.sites ≡ count → (i : ℕ) → i < program.sites → IsSiteOfOne program i
  -- those functions have sites that are used as values
  pub values : (program : Program) → program.points ≡ sited_points → program.functions ≡ sited_functions →
      (f : ℕ) → f < length program.functions → ((i : ℕ) × (value_site_of program f ≡ Some i))
      ↔ IsUsedAsValue program f
