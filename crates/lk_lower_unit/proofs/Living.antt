-- Points that are live, and their sites.
use Rattle.std.proofs.Common.{ap, arith, sym, subst, ◌∙◌, ◌≡◌, ◌<◌, ◌≤◌, ◌++◌, ℕ, zero, suc, Bool, true, false, List, [], ◌∷◌, length, take, drop, Option, None, Some, refl, append-nil, option_map}
use Rattle.std.specs.Prelude.{◌↔◌, slice_get}
use Rattle.std.specs.Option.{option_and_then, option_map_or}
use Rattle.std.proofs.lemmas.Bool.{false≢true}
use Rattle.std.proofs.lemmas.List.{drop_all, take_all}
use Rattle.std.proofs.lemmas.Option.{get_or_from_slice_get, none-some, same_Some, slice_get_within}
use Rattle.lk_facts.specs.InRange.{AreNamesInRange, IsInRange, IsPointInRange, sizes_of}
use Rattle.lk_facts.specs.LabelRules.{AreVoidParts}
use Rattle.lk_facts.specs.Live.{IsReached}
use Rattle.lk_facts.specs.Lowered.{IsSiteOfOne, IsUsedAsValue}
use Rattle.lk_facts.specs.Program.{live_at, value_site_of}
use Rattle.lk_facts.specs.declared.action.Action.TheVariants.{Func}
use Rattle.lk_facts.specs.declared.function.Function.{Function}
use Rattle.lk_facts.specs.declared.point.Point.{Point}
use Rattle.lk_facts.specs.declared.program.Program.{Program}
use Rattle.lk_lower_parts.specs.Sites.{HaveSites, behind_site, has_site, sited, valued}
use Rattle.lk_lower_parts.specs.declared.names.Given.{Given}
use Rattle.lk_lower_unit.specs.Made.{HasVoidParts, HaveLife, IsCode}
use Rattle.lk_lower_unit.specs.Placed.{AreAlive, lived}
use Rattle.lk_lower_unit.specs.declared.programs.Code.{Code}
use Rattle.lk_types.specs.Table.{Table}

-- what of `IsLowered` follows from how points, sites and Parts are made
pub record IsKept (program : Program) : Type 0 where
  pub sites : (i : ℕ) → i < program.sites → IsSiteOfOne program i
  pub value_sites : (f : ℕ) → ((i : ℕ) × (value_site_of program f ≡ Some i)) ↔ IsUsedAsValue program f
  pub live : (p : ℕ) → (live_at program p ≡ true) ↔ IsReached program.points program.functions p
  pub parts : AreVoidParts program

-- ---- a loop that says which are live

lived_none : (live : List Bool) → lived live [] ≡ []
lived_none [] = refl
lived_none (l ∷ live) = refl

pub lived_all : (live : List Bool) (now total : List Point) (p : ℕ) → length now ≤ p → total ≡ take p now ++ lived (drop p live) (drop p now) → now ≡ total
lived_all live now total p all is =
    sym (is ∙ ap (λ xs. xs ++ lived (drop p live) (drop p now)) (take_all p now all) ∙ ap (λ xs. now ++ lived (drop p live) xs) (drop_all p now all) ∙ ap (λ xs. now ++ xs) (lived_none (drop p live)) ∙ append-nil now)

-- ---- what stays as it is

next_lived : (live : List Bool) (points : List Point) (p : ℕ) → option_map (λ (point : Point). point.next) (slice_get (lived live points) p) ≡ option_map (λ (point : Point). point.next) (slice_get points p)
next_lived [] points p = refl
next_lived (l ∷ live) [] p = refl
next_lived (l ∷ live) (point ∷ points) zero = refl
next_lived (l ∷ live) (point ∷ points) (suc p) = next_lived live points p

next_sited : (points : List Point) (n p : ℕ) → option_map (λ (point : Point). point.next) (slice_get (sited n points) p) ≡ option_map (λ (point : Point). point.next) (slice_get points p)
next_sited [] n p = refl
next_sited (point ∷ points) n zero = refl
next_sited (point ∷ points) n (suc p) = next_sited points (behind_site (has_site point) n) p

entry_valued : (used : List Bool) (functions : List Function) (n f : ℕ) →
    option_map (λ (function : Function). function.entry) (slice_get (valued n used functions) f) ≡ option_map (λ (function : Function). function.entry) (slice_get functions f)
entry_valued [] functions n f = refl
entry_valued (has ∷ used) [] n f = refl
entry_valued (has ∷ used) (function ∷ functions) n zero = refl
entry_valued (has ∷ used) (function ∷ functions) n (suc f) = entry_valued used functions (behind_site has n) f

life_sited : (points : List Point) (n p : ℕ) → option_map_or (λ (point : Point). point.live) (slice_get (sited n points) p) false ≡ option_map_or (λ (point : Point). point.live) (slice_get points p) false
life_sited [] n p = refl
life_sited (point ∷ points) n zero = refl
life_sited (point ∷ points) n (suc p) = life_sited points (behind_site (has_site point) n) p

life_lived : (live : List Bool) (points : List Point) (p : ℕ) → length live ≡ length points → (option_map_or (λ (point : Point). point.live) (slice_get (lived live points) p) false ≡ true) ↔ (slice_get live p ≡ Some true)
life_lived [] [] p long = ((λ is. absurd (false≢true is)), (λ is. absurd (none-some true is)))
life_lived [] (point ∷ points) p long = absurd (omega (arith, long))
life_lived (l ∷ live) [] p long = absurd (omega (arith, long))
life_lived (l ∷ live) (point ∷ points) zero long = ((λ is. ap Some is), (λ is. same_Some l true is))
life_lived (l ∷ live) (point ∷ points) (suc p) long = life_lived live points p (omega (arith, long))

-- ---- what is reached

mapped : {A B : Type 0} (f : A → B) (o : Option A) (y : B) → option_map f o ≡ Some y → (x : A) × (o ≡ Some x) × (f x ≡ y)
mapped f None y is = absurd (none-some y is)
mapped f (Some x) y is = (x, refl, same_Some (f x) y is)

module _ (points others : List Point) (functions others_functions : List Function)
    (same_next : (p : ℕ) → option_map (λ (point : Point). point.next) (slice_get others p) ≡ option_map (λ (point : Point). point.next) (slice_get points p))
    (same_entry : (f : ℕ) → option_map (λ (function : Function). function.entry) (slice_get others_functions f) ≡ option_map (λ (function : Function). function.entry) (slice_get functions f)) where
  reached_too : (p : ℕ) → IsReached points functions p → IsReached others others_functions p
  reached_too p (IsReached.entry f function is) =
      let found = mapped (λ (one : Function). one.entry) (slice_get others_functions f) function.entry (same_entry f ∙ ap (option_map (λ (one : Function). one.entry)) is) in
      subst (IsReached others others_functions) found.2 (IsReached.entry f found.0 found.1)
  reached_too q (IsReached.next p point reached is leads) =
      let found = mapped (λ (one : Point). one.next) (slice_get others p) point.next (same_next p ∙ ap (option_map (λ (one : Point). one.next)) is) in
      IsReached.next p found.0 (reached_too p reached) found.1 (rw found.2 leads)

module _ (functions : List Function) (all alive points : List Point) (sited_functions : List Function) (sites : ℕ) (are_alive : AreAlive functions all alive) (have : HaveSites alive points functions sited_functions sites) (program : Program)
    (points_are : program.points ≡ points) (functions_are : program.functions ≡ sited_functions) (sites_are : program.sites ≡ sites) where
  same_next : (p : ℕ) → option_map (λ (point : Point). point.next) (slice_get program.points p) ≡ option_map (λ (point : Point). point.next) (slice_get all p)
  same_next p =
      ap (λ ps. option_map (λ (point : Point). point.next) (slice_get ps p)) (points_are ∙ have.points_) ∙ next_sited alive 0 p ∙ ap (λ ps. option_map (λ (point : Point). point.next) (slice_get ps p)) are_alive.said ∙ next_lived are_alive.live all p

  same_entry : (f : ℕ) → option_map (λ (function : Function). function.entry) (slice_get program.functions f) ≡ option_map (λ (function : Function). function.entry) (slice_get functions f)
  same_entry f = ap (λ fs. option_map (λ (function : Function). function.entry) (slice_get fs f)) (functions_are ∙ have.functions_) ∙ entry_valued have.used functions _ f

  same_life : (p : ℕ) → live_at program p ≡ option_map_or (λ (point : Point). point.live) (slice_get (lived are_alive.live all) p) false
  same_life p =
      ap (λ ps. option_map_or (λ (point : Point). point.live) (slice_get ps p) false) (points_are ∙ have.points_) ∙ life_sited alive 0 p ∙ ap (λ ps. option_map_or (λ (point : Point). point.live) (slice_get ps p) false) are_alive.said

  pub have_life : HaveLife program
  have_life = record {
    live = λ p. (
      (λ lives. reached_too all program.points functions program.functions same_next same_entry p ((are_alive.are p).0 ((life_lived are_alive.live all p are_alive.long).0 (sym (same_life p) ∙ lives)))),
      (λ reached. same_life p ∙
          (life_lived are_alive.live all p are_alive.long).1 ((are_alive.are p).1 (reached_too program.points all program.functions functions (λ q. sym (same_next q)) (λ f. sym (same_entry f)) p reached))),
    );
    sites = have.one program points_are functions_are sites_are;
    value_sites = have.values program points_are functions_are;
  }

-- ---- what is kept

-- a function that is used as a value is there
used_within : (program : Program) → IsInRange program → (f : ℕ) → IsUsedAsValue program f → f < length program.functions
used_within program in_range f used =
    let found = mapped (λ (one : Point). one.action) (slice_get program.points used.0) (Func f) used.1 in
    let within = slice_get_within program.points used.0 found.0 found.1 in
    let one : IsPointInRange (sizes_of program) found.0 =
    subst (IsPointInRange (sizes_of program)) (get_or_from_slice_get program.points used.0 found.0 found.0 found.1) (in_range.parts.points used.0 found.0 within) in
    subst (AreNamesInRange (sizes_of program)) found.2 one.action.names

value_within : (program : Program) (f i : ℕ) → value_site_of program f ≡ Some i → f < length program.functions
value_within program f i is = by_get (slice_get program.functions f) refl
  where
    by_get : (o : Option Function) → slice_get program.functions f ≡ o → f < length program.functions
    by_get (Some function) at = slice_get_within program.functions f function at
    by_get None at = absurd (none-some i (sym (ap (option_and_then (λ (function : Function). function.value_site)) at) ∙ is))

kept : (program : Program) → IsInRange program → HaveLife program → (table : Table) → HasVoidParts table program.points program.types → IsKept program
kept program in_range life table void_parts = record {
  sites = life.sites;
  value_sites = λ f. (
    (λ has. (life.value_sites f (value_within program f has.0 has.1)).0 has),
    (λ used. (life.value_sites f (used_within program in_range f used)).1 used),
  );
  live = life.live;
  parts = void_parts.2 program refl void_parts.1;
}

pub kept_by : (points put : Program) (given : Given) (table : Table) (slots : List (List ℕ)) (count : ℕ) (code : Code) (types : Table) → points ≡ put → IsInRange points → IsCode given table slots count code → HasVoidParts table code.points.items types →
    put.points ≡ code.points.items → put.functions ≡ code.functions.items → put.types ≡ types → put.sites ≡ code.sites → IsKept points
kept_by points put given table slots count code types is in_range is_code void_parts points_are functions_are types_are sites_are =
    subst IsKept (sym is) (kept put (subst IsInRange is in_range) (is_code.life put points_are functions_are sites_are) table
    (subst (HasVoidParts table put.points) (sym types_are) (subst (λ ps. HasVoidParts table ps types) (sym points_are) void_parts)))
