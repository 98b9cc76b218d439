-- Sites rise with their points and functions.
use Rattle.std.proofs.Common.{arith, ap, sym, subst, ⊎_elim, ◌∙◌, ◌≡◌, ◌<◌, ◌≤◌, ◌+◌, ◌++◌, ℕ, zero, suc, List, [], ◌∷◌, length, get_or, set, take, drop, slice_get, Bool, true, false, Option, None, Some, Result, Ok, Err, refl, add-one, drop-cons}
use Rattle.std.specs.Prelude.{◌↔◌, IfOk, OnOk, map}
use Rattle.std.specs.Option.{option_and_then, option_map}
use Rattle.std.proofs.lemmas.Bool.{cases_lt, false≢true}
use Rattle.std.proofs.lemmas.Option.{none-some, same_Some}
use Rattle.lk_facts.specs.Lowered.{IsSite, IsSiteOfOne, IsUsedAsValue, Owner}
use Rattle.lk_facts.specs.Program.{action_at, site_at, value_site_of}
use Rattle.lk_facts.specs.declared.action.Action.{Action}
use Rattle.lk_facts.specs.declared.action.Action.TheVariants.{Func}
use Rattle.lk_facts.specs.declared.function.Function.{Function}
use Rattle.lk_facts.specs.declared.point.Point.{Point}
use Rattle.lk_facts.specs.declared.program.Program.{Program}
use Rattle.lk_lower_expr.specs.Lowering.{Numbers}
use Rattle.lk_lower_expr.specs.Programs.{AreSites}
use Rattle.lk_lower_parts.proofs.Adding.{in_place, rest_stays}
use Rattle.lk_lower_parts.specs.Sites.{AreUsed, HaveSites, behind_site, behind_sites, behind_values, has_site, site_by, sited, valued, with_site, with_value_site}
use Rattle.lk_typed.specs.declared.whole.Whole.{Whole}

-- the sites of some, where it is said of each whether it has one
abbrev numbered : (n : ℕ) → List Bool → List (Option ℕ)
numbered n [] = []
numbered n (has ∷ others) = site_by has n ∷ numbered (behind_site has n) others

abbrev at : List (Option ℕ) → ℕ → Option ℕ
at [] p = None
at (x ∷ xs) zero = x
at (x ∷ xs) (suc p) = at xs p

abbrev behind_all : (n : ℕ) → List Bool → ℕ
behind_all n [] = n
behind_all n (has ∷ others) = behind_all (behind_site has n) others

least : (all : List Bool) (n p i : ℕ) → at (numbered n all) p ≡ Some i → n ≤ i
least [] n p i is = absurd (none-some i is)
least (true ∷ all) n zero i is = let e = same_Some n i is in omega arith
least (true ∷ all) n (suc p) i is = let h = least all (n + 1) p i is in omega arith
least (false ∷ all) n zero i is = absurd (none-some i is)
least (false ∷ all) n (suc p) i is = least all n p i is

from_behind : (all : List Bool) (n : ℕ) → n ≤ behind_all n all
from_behind [] n = omega arith
from_behind (true ∷ all) n = let h = from_behind all (n + 1) in omega arith
from_behind (false ∷ all) n = from_behind all n

below : (all : List Bool) (n p i : ℕ) → at (numbered n all) p ≡ Some i → i < behind_all n all
below [] n p i is = absurd (none-some i is)
below (true ∷ all) n zero i is = let e = same_Some n i is in let h = from_behind all (n + 1) in omega arith
below (true ∷ all) n (suc p) i is = below all (n + 1) p i is
below (false ∷ all) n zero i is = absurd (none-some i is)
below (false ∷ all) n (suc p) i is = below all n p i is

rising : (all : List Bool) (n p q i j : ℕ) → at (numbered n all) p ≡ Some i → at (numbered n all) q ≡ Some j → p < q → i < j
rising [] n p q i j is too order = absurd (none-some i is)
rising (has ∷ all) n p zero i j is too order = absurd (omega arith)
rising (true ∷ all) n zero (suc q) i j is too order = let e = same_Some n i is in let h = least all (n + 1) q j too in omega arith
rising (true ∷ all) n (suc p) (suc q) i j is too order = rising all (n + 1) p q i j is too (omega arith)
rising (false ∷ all) n zero (suc q) i j is too order = absurd (none-some i is)
rising (false ∷ all) n (suc p) (suc q) i j is too order = rising all n p q i j is too (omega arith)

turn : {A : Type 0} (xs : List A) (i : ℕ) (x : A) → i < length xs → x ≡ get_or xs i x → drop i xs ≡ x ∷ drop (suc i) xs
turn xs i x within is = drop-cons xs i x within ∙ ap (λ y. y ∷ drop (suc i) xs) (sym is)

-- ---- points and functions

site_there : (points : List Point) (n p : ℕ) → option_and_then (λ (point : Point). point.site) (slice_get (sited n points) p) ≡ at (numbered n (map has_site points)) p
site_there [] n p = refl
site_there (point ∷ points) n zero = refl
site_there (point ∷ points) n (suc p) = site_there points (behind_site (has_site point) n) p

value_there : (used : List Bool) (functions : List Function) (n f : ℕ) → length used ≡ length functions →
    option_and_then (λ (is : Function). is.value_site) (slice_get (valued n used functions) f) ≡ at (numbered n used) f
value_there [] [] n f as_many = refl
value_there [] (function ∷ functions) n f as_many = absurd (omega arith)
value_there (has ∷ used) [] n f as_many = absurd (omega arith)
value_there (has ∷ used) (function ∷ functions) n zero as_many = refl
value_there (has ∷ used) (function ∷ functions) n (suc f) as_many = value_there used functions (behind_site has n) f (omega arith)

length_valued : (used : List Bool) (functions : List Function) (n : ℕ) → length (valued n used functions) ≡ length functions
length_valued [] functions n = refl
length_valued (has ∷ used) [] n = refl
length_valued (has ∷ used) (function ∷ functions) n = ap suc (length_valued used functions (behind_site has n))

behind_points : (points : List Point) (n : ℕ) → behind_sites n points ≡ behind_all n (map has_site points)
behind_points [] n = refl
behind_points (point ∷ points) n = behind_points points (behind_site (has_site point) n)

pub are_sites : (points : List Point) (used : List Bool) (functions : List Function) → length used ≡ length functions →
    (whole : Whole) (numbers : Numbers) (program : Program) → program.points ≡ sited 0 points → program.functions ≡ valued (behind_sites 0 points) used functions → AreSites whole numbers program
are_sites points used functions as_many whole numbers program points_are functions_are = record {
  points = λ p q i j is too order. rising (map has_site points) 0 p q i j (point_site p i is) (point_site q j too) order;
  then_functions = λ p f i j is too.
      let h = below (map has_site points) 0 p i (point_site p i is) in
      let k = least used (behind_sites 0 points) f j (function_site f j too) in omega (arith, h, k, behind_points points 0);
  functions = λ f g i j is too order. rising used (behind_sites 0 points) f g i j (function_site f i is) (function_site g j too) order;
}
  where
    point_site : (p i : ℕ) → site_at program p ≡ Some i → at (numbered 0 (map has_site points)) p ≡ Some i
    point_site p i is = sym (ap (λ ps. option_and_then (λ (point : Point). point.site) (slice_get ps p)) points_are ∙ site_there points 0 p) ∙ is

    function_site : (f i : ℕ) → value_site_of program f ≡ Some i → at (numbered (behind_sites 0 points) used) f ≡ Some i
    function_site f i is = sym (ap (λ fs. option_and_then (λ (function : Function). function.value_site) (slice_get fs f)) functions_are ∙ value_there used functions (behind_sites 0 points) f as_many) ∙ is

-- ---- each number is the site of one

behind_functions : (used : List Bool) (n : ℕ) → behind_values n used ≡ behind_all n used
behind_functions [] n = refl
behind_functions (has ∷ used) n = behind_functions used (behind_site has n)

onto : (all : List Bool) (n i : ℕ) → n ≤ i → i < behind_all n all → (p : ℕ) × (at (numbered n all) p ≡ Some i)
onto [] n i least below = absurd (omega (arith, least, below))
onto (true ∷ all) n i first below = ⊎_elim (λ after. let found = onto all (n + 1) i (omega (arith, after)) below in (suc found.0, found.1)) (λ here. (zero, ap Some (omega (arith, here, first)))) (cases_lt n i)
onto (false ∷ all) n i first below = let found = onto all n i first below in (suc found.0, found.1)

once : (all : List Bool) (n p q i : ℕ) → at (numbered n all) p ≡ Some i → at (numbered n all) q ≡ Some i → q ≡ p
once all n p q i is too =
    ⊎_elim (λ less. absurd (let h = rising all n p q i i is too less in omega (arith, h)))
    (λ high. ⊎_elim (λ less. absurd (let h = rising all n q p i i too is less in omega (arith, h))) (λ low. omega (arith, high, low)) (cases_lt q p)) (cases_lt p q)

has_number : (used : List Bool) (n f : ℕ) → slice_get used f ≡ Some true → (i : ℕ) × (at (numbered n used) f ≡ Some i)
has_number [] n f is = absurd (none-some true is)
has_number (has ∷ used) n (suc f) is = has_number used (behind_site has n) f is
has_number (true ∷ used) n zero is = (n, refl)
has_number (false ∷ used) n zero is = absurd (false≢true (same_Some false true is))

is_used : (used : List Bool) (n f i : ℕ) → at (numbered n used) f ≡ Some i → slice_get used f ≡ Some true
is_used [] n f i is = absurd (none-some i is)
is_used (has ∷ used) n (suc f) i is = is_used used (behind_site has n) f i is
is_used (true ∷ used) n zero i is = refl
is_used (false ∷ used) n zero i is = absurd (none-some i is)

-- what has a site does the same
same_action : (points : List Point) (n p : ℕ) → option_map (λ (point : Point). point.action) (slice_get (sited n points) p) ≡ option_map (λ (point : Point). point.action) (slice_get points p)
same_action [] n p = refl
same_action (point ∷ points) n zero = refl
same_action (point ∷ points) n (suc p) = same_action points (behind_site (has_site point) n) p

action_within : (points : List Point) (p : ℕ) (does : Action) → option_map (λ (point : Point). point.action) (slice_get points p) ≡ Some does → p < length points
action_within [] p does is = absurd (none-some does is)
action_within (point ∷ points) zero does is = omega arith
action_within (point ∷ points) (suc p) does is = let h = action_within points p does is in omega (arith, h)

module _ (points : List Point) (used : List Bool) (functions : List Function) (as_many : length used ≡ length functions) (program : Program) (points_are : program.points ≡ sited 0 points)
    (functions_are : program.functions ≡ valued (behind_sites 0 points) used functions) where
  abbrev from : ℕ
  from = behind_sites 0 points

  point_site : (p : ℕ) → site_at program p ≡ at (numbered 0 (map has_site points)) p
  point_site p = ap (λ ps. option_and_then (λ (point : Point). point.site) (slice_get ps p)) points_are ∙ site_there points 0 p

  function_site : (f : ℕ) → value_site_of program f ≡ at (numbered from used) f
  function_site f = ap (λ fs. option_and_then (λ (function : Function). function.value_site) (slice_get fs f)) functions_are ∙ value_there used functions from f as_many

  -- sites of points stand below those of functions
  apart : (p f i : ℕ) → site_at program p ≡ Some i → value_site_of program f ≡ Some i → ⊥
  apart p f i is too =
      let h = below (map has_site points) 0 p i (sym (point_site p) ∙ is) in
      let k = least used from f i (sym (function_site f) ∙ too) in omega (arith, h, k, behind_points points 0)

  of_point : (p i : ℕ) → site_at program p ≡ Some i → IsSiteOfOne program i
  of_point p i is = record {
    owner = Owner.point p;
    has = is;
    only = only;
  }
    where
      only : (other : Owner) → IsSite program i other → other ≡ Owner.point p
      only (Owner.point q) too = ap Owner.point (once (map has_site points) 0 p q i (sym (point_site p) ∙ is) (sym (point_site q) ∙ too))
      only (Owner.function f) too = absurd (apart p f i is too)

  of_function : (f i : ℕ) → value_site_of program f ≡ Some i → IsSiteOfOne program i
  of_function f i is = record {
    owner = Owner.function f;
    has = is;
    only = only;
  }
    where
      only : (other : Owner) → IsSite program i other → other ≡ Owner.function f
      only (Owner.point p) too = absurd (apart p f i too is)
      only (Owner.function g) too = ap Owner.function (once used from f g i (sym (function_site f) ∙ is) (sym (function_site g) ∙ too))

  site_of_one : (i : ℕ) → i < behind_values from used → IsSiteOfOne program i
  site_of_one i within =
      ⊎_elim (λ less. let found = onto (map has_site points) 0 i (omega arith) (omega (arith, less, behind_points points 0)) in of_point found.0 i (point_site found.0 ∙ found.1))
      (λ high. let found = onto used from i high (omega (arith, within, behind_functions used from)) in of_function found.0 i (function_site found.0 ∙ found.1)) (cases_lt i from)

  used_as_value : AreUsed points (length functions) used → (f : ℕ) → f < length program.functions → ((i : ℕ) × (value_site_of program f ≡ Some i)) ↔ IsUsedAsValue program f
  used_as_value are_used f within = (
    (λ has. let named = (are_used f inside).0 (is_used used from f has.0 (sym (function_site f) ∙ has.1)) in (named.0, same_does named.0 ∙ named.2)),
    (λ named. let does = sym (same_does named.0) ∙ named.1 in
        let number = has_number used from f ((are_used f inside).1 (named.0, action_within points named.0 (Func f) does, does)) in (number.0, function_site f ∙ number.1)),
  )
    where
      inside : f < length functions
      inside = omega (arith, within, ap length functions_are, length_valued used functions from)

      same_does : (p : ℕ) → action_at program p ≡ option_map (λ (point : Point). point.action) (slice_get points p)
      same_does p = ap (λ ps. option_map (λ (point : Point). point.action) (slice_get ps p)) points_are ∙ same_action points 0 p

-- one more point has its site
pub point_more : (all points new : List Point) (p n : ℕ) (x : Point) → p < length points → x ≡ get_or points p x → new ≡ set points p (with_site (site_by (has_site x) n) x) →
    sited 0 all ≡ take p points ++ sited n (drop p points) → sited 0 all ≡ take (p + 1) new ++ sited (behind_site (has_site x) n) (drop (p + 1) new)
point_more all points new p n x within is put was =
    in_place points new p (with_site (site_by (has_site x) n) x) within put (sited 0 all) (sited (behind_site (has_site x) n) (drop (suc p) points)) (was ∙ ap (λ xs. take p points ++ sited n xs) (turn points p x within is)) ∙
    ap (λ xs. take (p + 1) new ++ sited (behind_site (has_site x) n) xs) (sym (rest_stays points new p (with_site (site_by (has_site x) n) x) within put))

pub behind_more : (all points new : List Point) (p n : ℕ) (x y : Point) → p < length points → x ≡ get_or points p x → new ≡ set points p y →
    behind_sites 0 all ≡ behind_sites n (drop p points) → behind_sites 0 all ≡ behind_sites (behind_site (has_site x) n) (drop (p + 1) new)
behind_more all points new p n x y within is put was =
    was ∙ ap (behind_sites n) (turn points p x within is) ∙ ap (behind_sites (behind_site (has_site x) n)) (sym (rest_stays points new p y within put))

-- one more function has its site, if it is used
pub function_more : (first : ℕ) (used : List Bool) (all functions new : List Function) (f n : ℕ) (has : Bool) (x : Function) → f < length functions → x ≡ get_or functions f x → f < length used → has ≡ get_or used f has →
    new ≡ set functions f (with_value_site (site_by has n) x) → valued first used all ≡ take f functions ++ valued n (drop f used) (drop f functions) →
    valued first used all ≡ take (f + 1) new ++ valued (behind_site has n) (drop (f + 1) used) (drop (f + 1) new)
function_more first used all functions new f n has x within is inside has_is put was =
    in_place functions new f (with_value_site (site_by has n) x) within put (valued first used all) (valued (behind_site has n) (drop (suc f) used) (drop (suc f) functions))
    (was ∙ ap (λ us. take f functions ++ valued n us (drop f functions)) (turn used f has inside has_is) ∙ ap (λ xs. take f functions ++ valued n (has ∷ drop (suc f) used) xs) (turn functions f x within is)) ∙
    ap (λ xs. take (f + 1) new ++ valued (behind_site has n) (drop (suc f) used) xs) (sym (rest_stays functions new f (with_value_site (site_by has n) x) within put)) ∙
    ap (λ k. take (f + 1) new ++ valued (behind_site has n) (drop k used) (drop (f + 1) new)) (sym (add-one f))

pub value_more : (first : ℕ) (used : List Bool) (f n : ℕ) (has : Bool) → f < length used → has ≡ get_or used f has → behind_values first used ≡ behind_values n (drop f used) → behind_values first used ≡ behind_values (behind_site has n) (drop (f + 1) used)
value_more first used f n has inside has_is was =
    was ∙ ap (behind_values n) (turn used f has inside has_is) ∙ ap (λ k. behind_values (behind_site has n) (drop k used)) (sym (add-one f))

-- points and functions that have got their sites
pub have_sites : {E : Type 0} (points sited_points : List Point) (functions sited_functions : List Function) (used : List Bool) (next : ℕ) (result : Result ℕ E) → length used ≡ length functions → AreUsed points (length functions) used → sited_points ≡ sited 0 points →
    next ≡ behind_sites 0 points → OnOk result (sited_functions ≡ valued next used functions) → IfOk result (λ count. count ≡ behind_values next used) → IfOk result (HaveSites points sited_points functions sited_functions)
have_sites points sited_points functions sited_functions used next (Ok count) as_many are_used points_are behind functions_are counted =
    let functions_ : sited_functions ≡ valued (behind_sites 0 points) used functions = functions_are ∙ ap (λ n. valued n used functions) behind in
    let count_ : count ≡ behind_values (behind_sites 0 points) used = counted ∙ ap (λ n. behind_values n used) behind in record {
      used = used;
      as_many = as_many;
      points_ = points_are;
      functions_ = functions_;
      count_ = count_;
      are = λ whole numbers program ps fs. are_sites points used functions as_many whole numbers program (ps ∙ points_are) (fs ∙ functions_);
      one = λ program ps fs ss i within. site_of_one points used functions as_many program (ps ∙ points_are) (fs ∙ functions_) i (subst (λ n. i < n) (ss ∙ count_) within);
      values = λ program ps fs. used_as_value points used functions as_many program (ps ∙ points_are) (fs ∙ functions_) are_used;
    }
have_sites points sited_points functions sited_functions used next (Err e) as_many are_used points_are behind functions_are counted = tt
