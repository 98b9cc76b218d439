-- The links of a point: of a call or creation by a number, and of a call through a pointer.
use Rattle.std.proofs.Common.{◌≡◌, ◌<◌, ◌↔◌, ◌||◌, ◌++◌, ◌+◌, ℕ, zero, suc, Bool, true, false, List, [], ◌∷◌, length, Option, Some, None, All, Contains, refl, sym, ap, ◌∙◌, subst, inl, inr, take, get_or, arith}
use Rattle.std.specs.List.{cons_option, filter_map, slice_get}
use Rattle.std.specs.List.Sorted.{IsStrictlyIncreasing}
use Rattle.std.specs.Option.{is_some, option_map, option_map_or, option_and_then}
use Rattle.std.proofs.Math.Seq.{get_or-append_seam}
use Rattle.std.proofs.lemmas.Bool.{cases_lt, false≢true}
use Rattle.std.proofs.lemmas.List.{append-nil, get_or_append_left, take_more}
use Rattle.std.proofs.lemmas.List.Elements.{filter_map-append}
use Rattle.std.proofs.lemmas.Option.{none-some, same_Some}
use Rattle.lk_facts.specs.Basis.{Basis}
use Rattle.lk_facts.specs.Doing.{Does, MayCall, NamesFunction}
use Rattle.lk_facts.specs.Doing.Runs.{call, pointer}
use Rattle.lk_facts.specs.Doing.Starts.{create}
use Rattle.lk_facts.specs.InRange.{IsInRange}
use Rattle.lk_facts.specs.Items.{Rises}
use Rattle.lk_facts.specs.Items.Rises.{run, start}
use Rattle.lk_facts.specs.Labels.{target_at, root_of}
use Rattle.lk_facts.specs.Program.{effect_at, enters_at, live_at, function_at, site_at, value_site_of, function_of_root}
use Rattle.lk_facts.specs.Effects.{effect_of, entered}
use Rattle.lk_facts.specs.declared.effect.Effect.{Effect}
use Rattle.lk_facts.specs.declared.effect.Effect.TheVariants as effect
use Rattle.lk_facts.specs.declared.point.Point.{Point}
use Rattle.lk_facts.specs.declared.program.Program.{Program}
use Rattle.lk_facts.specs.declared.way.Way.{Way}
use Rattle.lk_facts.specs.declared.way.Way.TheVariants.{Through, AsValue}
use Rattle.lk_links.specs.declared.link.Link.{Link}
use Rattle.lk_links.specs.Links.{IsLink, IsBy, AreLinksAt, links_at}
use Rattle.lk_links.specs.Making.{entering, link_with, value_link, function_named, MayName, MayPointTo}
use Rattle.lk_links.proofs.ListLemmas.{All-from_places, contained, one_different, given_by, given_place, given_different, has_id-filter_map}
use Rattle.lk_links.proofs.SetLemmas.{All-has_id}
use Rattle.lk_sets.specs.Ids.{has_id, IsSetOf}
use Rattle.lk_sets.specs.Rows.{Rows, has, row_of}
use Rattle.lk_sets.proofs.Reading.{has_id-row}

or_false : (b : Bool) → b ≡ (b || false)
or_false true = refl
or_false false = refl

or_true : (b : Bool) → true ≡ (b || true)
or_true true = refl
or_true false = refl

module _ (basis : Basis) (p : ℕ) where
  -- items rise at live points alone
  pub rises_live : (f g : ℕ) (way : Way) (child above : Bool) → Rises basis p f way g child above → live_at basis.program p ≡ true
  rises_live f g way child above (run (call _ i does site)) = does.live
  rises_live f g way child above (run (pointer _ a i does may)) = does.live
  rises_live f g way child above (start (create _ i does site)) = does.live

  -- so a point that isn't live has no links
  pub no_links : ((f g : ℕ) (way : Way) (child above : Bool) → Rises basis p f way g child above → ⊥) → AreLinksAt basis p []
  no_links none = record {
    each = λ k d within. absurd (omega arith);
    all = λ f g way child above rises. absurd (none f g way child above rises);
    once = λ i j x at at'. absurd (none-some x at);
  }

  -- nor has one that goes into no function
  pub idle_links : (done : Effect) → effect_at basis.program p ≡ Some done → ((g : ℕ) → done ≡ effect.Runs g → ⊥) → ((a : ℕ) → done ≡ effect.RunsThrough a → ⊥) → ((g : ℕ) → done ≡ effect.Starts g → ⊥) → AreLinksAt basis p []
  idle_links done is runs through starts = no_links (λ f g way child above rises. none f g way child above rises)
    where
      same : (other : Effect) → effect_at basis.program p ≡ Some other → done ≡ other
      same other is' = cc

      none : (f g : ℕ) (way : Way) (child above : Bool) → Rises basis p f way g child above → ⊥
      none f g way child above (run (call _ i does site)) = runs g (same _ does.is)
      none f g way child above (run (pointer _ a i does may)) = through a (same _ does.is)
      none f g way child above (start (create _ i does site)) = starts g (same _ does.is)

  -- a point with one link
  pub one_link : (link : Link) → IsLink basis p link → ((f g : ℕ) (way : Way) (child above : Bool) → Rises basis p f way g child above → IsBy basis f way g child above link) → AreLinksAt basis p (link ∷ [])
  one_link link is by = record {
    each = All-from_places (IsLink basis p) (link ∷ []) (λ k other at. is_link k other at);
    all = λ f g way child above rises. (link, contained (link ∷ []) 0 link refl, by f g way child above rises);
    once = one_different link;
  }
    where
      is_link : (k : ℕ) (other : Link) → slice_get (link ∷ []) k ≡ Some other → IsLink basis p other
      is_link zero other at = subst (IsLink basis p) (same_Some link other at) is
      is_link (suc k) other at = absurd (none-some other at)

module _ (basis : Basis) (p f g i : ℕ) (of : function_at basis.program p ≡ Some f) (live : live_at basis.program p ≡ true) (at : site_at basis.program p ≡ Some i) (above : f < length basis.program.functions) (below : g < length basis.program.functions) where
  -- a live call of a function by its number
  pub call_link : effect_at basis.program p ≡ Some (effect.Runs g) → AreLinksAt basis p (link_with p f g (Through i) false ∷ [])
  call_link is =
      one_link basis p _
      (record { point = refl; rises = λ child. subst (λ b. Rises basis p f (Through i) g child b) (or_false child) (run (call g i (record { live = live; of = of; is = is }) at)); above = above; below = below })
      by
    where
      by : (h k : ℕ) (way : Way) (child top : Bool) → Rises basis p h way k child top → IsBy basis h way k child top (link_with p f g (Through i) false)
      by h k way child top (run (call _ j does site)) = record { from = cc (does.of); by = cc; into = cc (does.is); becomes = sym (or_false child) }
      by h k way child top (run (pointer _ a j does may)) = let other : Some (effect.Runs g) ≡ Some (effect.RunsThrough a) = sym is ∙ does.is in absurd (cc)
      by h k way child top (start (create _ j does site)) = let other : Some (effect.Runs g) ≡ Some (effect.Starts k) = sym is ∙ does.is in absurd (cc)

  -- a live creation
  pub create_link : effect_at basis.program p ≡ Some (effect.Starts g) → AreLinksAt basis p (link_with p f g (Through i) true ∷ [])
  create_link is =
      one_link basis p _
      (record { point = refl; rises = λ child. subst (λ b. Rises basis p f (Through i) g child b) (or_true child) (start (create g i (record { live = live; of = of; is = is }) at)); above = above; below = below })
      by
    where
      by : (h k : ℕ) (way : Way) (child top : Bool) → Rises basis p h way k child top → IsBy basis h way k child top (link_with p f g (Through i) true)
      by h k way child top (run (call _ j does site)) = let other : Some (effect.Starts g) ≡ Some (effect.Runs k) = sym is ∙ does.is in absurd (cc)
      by h k way child top (run (pointer _ a j does may)) = let other : Some (effect.Starts g) ≡ Some (effect.RunsThrough a) = sym is ∙ does.is in absurd (cc)
      by h k way child top (start (create _ j does site)) = record { from = cc (does.of); by = cc; into = cc (does.is); becomes = sym (or_true child) }

  -- either
  pub site_link : (starts : Bool) → effect_at basis.program p ≡ Some (entering starts g) → AreLinksAt basis p (link_with p f g (Through i) starts ∷ [])
  site_link true is = create_link is
  site_link false is = call_link is

-- what goes into a function by its number enters one
pub enters : (program : Program) (p g : ℕ) (starts : Bool) → effect_at program p ≡ Some (entering starts g) → enters_at program p ≡ true
enters program p g starts is = of (slice_get program.points p) is
  where
    entered_some : (starts : Bool) → is_some (entered (entering starts g)) ≡ true
    entered_some true = refl
    entered_some false = refl

    of : (got : Option Point) → option_map (λ (point : Point). effect_of point.action) got ≡ Some (entering starts g) → option_map_or (λ (point : Point). is_some (entered (effect_of point.action))) got false ≡ true
    of None is' = absurd (none-some _ is')
    of (Some point) is' = ap (λ e. is_some (entered e)) (same_Some _ _ is') ∙ entered_some starts

-- the link to a function that is used as a value
module _ (basis : Basis) (p f : ℕ) where
  value_link_is : (g : ℕ) (link : Link) → value_link basis.program p f g ≡ Some link → (i : ℕ) × (value_site_of basis.program g ≡ Some i) × (link_with p f g (AsValue i) false ≡ link)
  value_link_is g link is = of (value_site_of basis.program g) refl is
    where
      of : (site : Option ℕ) → value_site_of basis.program g ≡ site → option_map (λ i. link_with p f g (AsValue i) false) site ≡ Some link → (i : ℕ) × (value_site_of basis.program g ≡ Some i) × (link_with p f g (AsValue i) false ≡ link)
      of None at is' = absurd (none-some link is')
      of (Some i) at is' = (i, at, same_Some _ link is')

  value_link_at : (g i : ℕ) → value_site_of basis.program g ≡ Some i → value_link basis.program p f g ≡ Some (link_with p f g (AsValue i) false)
  value_link_at g i at = ap (option_map (λ i. link_with p f g (AsValue i) false)) at

  -- what names a function has its root
  named : (x g : ℕ) → function_named basis x ≡ Some g → NamesFunction basis x g
  named x g is = of (root_of basis.labels x) refl is
    where
      of : (root : Option ℕ) → root_of basis.labels x ≡ root → option_and_then (function_of_root basis.program) root ≡ Some g → NamesFunction basis x g
      of None at is' = absurd (none-some g is')
      of (Some r) at is' = (r, at, is')

  names : (x g : ℕ) → NamesFunction basis x g → function_named basis x ≡ Some g
  names x g has_root = ap (option_and_then (function_of_root basis.program)) has_root.1 ∙ has_root.2

  may_call : (a g i : ℕ) → MayPointTo basis a g → value_site_of basis.program g ≡ Some i → MayCall basis a g i
  may_call a g i may site = record { target = may.0; origin = may.2.0; points_to = may.1; may_be = may.2.1; names = named may.2.0 g may.2.2; own_site = site }

  may_point : (a g i : ℕ) → MayCall basis a g i → MayPointTo basis a g
  may_point a g i may = (may.target, may.points_to, (may.origin, may.may_be, names may.origin g may.names))

  module _ (a : ℕ) (of : function_at basis.program p ≡ Some f) (live : live_at basis.program p ≡ true) (is : effect_at basis.program p ≡ Some (effect.RunsThrough a)) (above : f < length basis.program.functions) (functions : List ℕ) (rises : IsStrictlyIncreasing functions) (within : All (λ g. g < length basis.program.functions) functions) (may : (g : ℕ) → (has_id functions g ≡ true) ↔ MayPointTo basis a g) where
    does : Does basis.program p f (effect.RunsThrough a)
    does = record { live = live; of = of; is = is }

    is_value_link : (k : ℕ) (link : Link) → slice_get (filter_map (value_link basis.program p f) functions) k ≡ Some link → IsLink basis p link
    is_value_link k link at =
        let found = given_by (value_link basis.program p f) functions k link at in
        let g = found.0 in
        let site = value_link_is g link found.2 in
        subst (IsLink basis p) site.2
        (record {
          point = refl;
          rises = λ child. subst (λ b. Rises basis p f (AsValue site.0) g child b) (or_false child) (run (pointer g a site.0 does (may_call a g site.0 ((may g).0 found.1) site.1)));
          above = above;
          below = All-has_id (λ g. g < length basis.program.functions) functions g within found.1;
        })

    same_function : (g h : ℕ) (link : Link) → value_link basis.program p f g ≡ Some link → value_link basis.program p f h ≡ Some link → g ≡ h
    same_function g h link one other = ap (λ (l : Link). l.below) ((value_link_is g link one).2 ∙ sym (value_link_is h link other).2)

    by_value : (h k : ℕ) (way : Way) (child top : Bool) → Rises basis p h way k child top → (link : Link) × Contains (filter_map (value_link basis.program p f) functions) link × IsBy basis h way k child top link
    by_value h k way child top (run (call _ j does' site)) = let other : Some (effect.RunsThrough a) ≡ Some (effect.Runs k) = sym is ∙ does'.is in absurd (cc)
    by_value h k way child top (run (pointer _ b j does' may')) =
        let operand : a ≡ b = cc (is, does'.is) in
        let place = given_place (value_link basis.program p f) functions k _ ((may k).1 (may_point a k j (subst (λ c. MayCall basis c k j) (sym operand) may'))) (value_link_at k j may'.own_site) in
        (link_with p f k (AsValue j) false, contained _ place.0 _ place.1, record { from = cc (of, does'.of); by = refl; into = refl; becomes = sym (or_false child) })
    by_value h k way child top (start (create _ j does' site)) = let other : Some (effect.RunsThrough a) ≡ Some (effect.Starts k) = sym is ∙ does'.is in absurd (cc)

    pub value_links : AreLinksAt basis p (filter_map (value_link basis.program p f) functions)
    value_links = record {
      each = All-from_places (IsLink basis p) _ is_value_link;
      all = by_value;
      once = given_different (value_link basis.program p f) functions rises same_function;
    }

-- the functions that an operand may point to
pub functions_are : (basis : Basis) (rows : Rows) (a target : ℕ) (ids functions : List ℕ) → has rows ≡ basis.flow.all → target_at basis.labels a ≡ Some target → ids ≡ filter_map (function_named basis) (row_of rows target) → IsSetOf (has_id ids) functions →
    (g : ℕ) → (has_id functions g ≡ true) ↔ MayPointTo basis a g
functions_are basis rows a target ids functions flow at is set g =
    let named = has_id-filter_map (function_named basis) (row_of rows target) g in
    let same = set.members g ∙ ap (λ l. has_id l g) is in
    let row : (o : ℕ) → has_id (row_of rows target) o ≡ basis.flow.all target o = λ o. has_id-row rows target o _ refl ∙ ap (λ (all : ℕ → ℕ → Bool). all target o) flow in (
      λ there. let found = named.0 (sym same ∙ there) in (target, at, (found.0, sym (row found.0) ∙ found.1, found.2)),
      λ may.
          let one : may.0 ≡ target = same_Some _ _ (sym may.1 ∙ at) in
          same ∙ named.1 (may.2.0, row may.2.0 ∙ subst (λ t. basis.flow.all t may.2.0 ≡ true) one may.2.1, may.2.2),
    )

pub no_functions : (basis : Basis) (a : ℕ) → target_at basis.labels a ≡ None → (g : ℕ) → (has_id [] g ≡ true) ↔ MayPointTo basis a g
no_functions basis a none g = (λ there. absurd (false≢true there), λ may. absurd (none-some may.0 (sym none ∙ may.1)))

-- one link more, where the function is used as a value
module _ (program : Program) (p f : ℕ) (functions : List ℕ) (i : ℕ) (within : i < length functions) where
  value_link_more : (links new : List Link) → links ≡ filter_map (value_link program p f) (take i functions) → new ≡ links ++ filter_map (value_link program p f) (get_or functions i 0 ∷ []) → new ≡ filter_map (value_link program p f) (take (i + 1) functions)
  value_link_more links new before is =
      is ∙ ap (λ l. l ++ filter_map (value_link program p f) (get_or functions i 0 ∷ [])) before ∙ sym (filter_map-append (value_link program p f) (take i functions) (get_or functions i 0 ∷ [])) ∙
      ap (filter_map (value_link program p f)) (sym (take_more functions i 0 within))

  pub used_link : (links new : List Link) (site : ℕ) → links ≡ filter_map (value_link program p f) (take i functions) → value_site_of program (get_or functions i 0) ≡ Some site → new ≡ links ++ link_with p f (get_or functions i 0) (AsValue site) false ∷ [] → new ≡ filter_map (value_link program p f) (take (i + 1) functions)
  used_link links new site before at is = value_link_more links new before (is ∙ ap (λ kept. links ++ cons_option (option_map (λ s. link_with p f (get_or functions i 0) (AsValue s) false) kept) []) (sym at))

  pub unused_link : (links new : List Link) → links ≡ filter_map (value_link program p f) (take i functions) → value_site_of program (get_or functions i 0) ≡ None → new ≡ links → new ≡ filter_map (value_link program p f) (take (i + 1) functions)
  unused_link links new before at is = value_link_more links new before (is ∙ sym (append-nil links) ∙ ap (λ kept. links ++ cons_option (option_map (λ s. link_with p f (get_or functions i 0) (AsValue s) false) kept) []) (sym at))

-- the links of one point more
pub links_more : (basis : Basis) (p : ℕ) (old new : List (List Link)) (links : List Link) → new ≡ old ++ links ∷ [] → length old ≡ p → AreLinksAt basis p links → ((q : ℕ) → q < p → AreLinksAt basis q (links_at old q)) → (q : ℕ) → q < p + 1 → AreLinksAt basis q (links_at new q)
links_more basis p old new links is long here before q below =
    elim (cases_lt q p) [
      | inl earlier ↦ subst (AreLinksAt basis q) (sym (ap (λ l. links_at l q) is ∙ get_or_append_left old (links ∷ []) [] q (subst (λ n. q < n) (sym long) earlier))) (before q earlier)
      | inr after ↦
          let same : q ≡ p = omega (arith, after, below) in
          subst (λ r. AreLinksAt basis r (links_at new r)) (sym same) (subst (AreLinksAt basis p) (sym (ap (λ l. links_at l p) is ∙ ap (λ n. links_at (old ++ links ∷ []) n) (sym long) ∙ get_or-append_seam old links [] [])) here)
    ]
