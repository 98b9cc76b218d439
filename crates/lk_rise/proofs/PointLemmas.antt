-- What points access and what items they have.
use Rattle.std.proofs.Common.{◌≡◌, ◌<◌, ◌||◌, ◌↔◌, ◌+◌, ◌++◌, ℕ, Bool, true, false, List, [], ◌∷◌, length, take, get_or, All, Contains, Some, Option, None, refl, sym, ap, ◌∙◌, subst, inl, inr, arith}
use Rattle.std.specs.List.{flat_map, slice_get}
use Rattle.std.specs.Option.{IfSome, option_and_then, option_map, option_map_or}
use Rattle.std.proofs.lemmas.List.{map-append, take_more}
use Rattle.std.proofs.lemmas.List.Elements.{All-contains}
use Rattle.std.proofs.lemmas.Option.{none-some, same_Some, slice_get-map, slice_get_cases, slice_get_within}
use Rattle.lk_facts.proofs.Ranges.{live_within}
use Rattle.lk_facts.specs.Basis.{Basis}
use Rattle.lk_facts.specs.Doing.{Accesses}
use Rattle.lk_facts.specs.Doing.Runs.{call, pointer}
use Rattle.lk_facts.specs.Doing.Starts.{create}
use Rattle.lk_facts.specs.Effects.{accessed as operand_of}
use Rattle.lk_facts.specs.Facts.{FactTable, AreFacts, basis_of}
use Rattle.lk_facts.specs.Flow.{Over}
use Rattle.lk_facts.specs.Items.{ItemTest, Rises, PointItem}
use Rattle.lk_facts.specs.Items.PointItem.{accessed, risen}
use Rattle.lk_facts.specs.Items.Rises.{run, start}
use Rattle.lk_facts.specs.Labels.{LabelTable, AreLabelsInRange, target_at}
use Rattle.lk_facts.specs.InRange.{IsInRange, IsPointInRange, sizes_of}
use Rattle.lk_facts.specs.Origins.{AreOriginsInRange, flow_of}
use Rattle.lk_facts.specs.Program.{live_at, function_at, effect_at}
use Rattle.lk_facts.specs.declared.effect.Effect.{Effect}
use Rattle.lk_facts.specs.declared.effect.Effect.TheVariants as effect
use Rattle.lk_facts.specs.declared.point.Point.{Point}
use Rattle.lk_facts.specs.declared.program.Program.{Program}
use Rattle.lk_facts.specs.declared.source.Source.{Source}
use Rattle.lk_facts.specs.declared.source.Source.TheVariants.{ItemBelow}
use Rattle.lk_facts.specs.declared.way.Way.{Way}
use Rattle.lk_links.proofs.LinkLemmas.{rises_live}
use Rattle.lk_links.proofs.OverLemmas.{over_is, over_within}
use Rattle.lk_links.specs.Links.{IsLink, AreLinksAt}
use Rattle.lk_links.specs.Only.{IsTheOne, over_list}
use Rattle.lk_links.specs.declared.link.Link.{Link}
use Rattle.lk_rise.proofs.DoingLemmas.{accessing, accessed_by}
use Rattle.lk_rise.proofs.ListLemmas.{head_there, in_flat_map, in_map, one_there}
use Rattle.lk_rise.proofs.EntryLemmas.{entry_at, entry_there, number_at, there_found}
use Rattle.lk_rise.specs.Correlations.{AreInRange, IsEntryInRange, has_of, item_of}
use Rattle.lk_rise.specs.Groups.{AreGroups, group_at}
use Rattle.lk_rise.specs.PointItems.{IsItemInRange, IsItemOf, StartsNothing, functions_of, items_by, items_from, items_through, own_access_of, point_functions, risen_item_of}
use Rattle.lk_rise.specs.declared.point_items.ItemAt.{ItemAt}
use Rattle.lk_rise.specs.declared.correlations.Correlation.{Correlation}
use Rattle.lk_sets.specs.Rows.{IsSquare}
use Rattle.lk_sets.proofs.Members.{Contains-from_has_id, has_id-from_Contains}

-- a point is of a function
pub function_there : (program : Program) (p : ℕ) → p < length program.points → (f : ℕ) × (function_at program p ≡ Some f)
function_there program p within =
    elim (slice_get_cases program.points p).1 [
      | inl found ↦ (found.0.function, ap (option_map (λ (point : Point). point.function)) found.2)
      | inr past ↦ absurd (omega arith)
    ]

module _ (basis : Basis) (p : ℕ) where
  access_same : (done : Effect) → effect_at basis.program p ≡ Some done → (x f : ℕ) → Accesses basis p f x → (a : ℕ) × (operand_of done ≡ Some a) × (target_at basis.labels a ≡ Some x)
  access_same done is x f accesses =
      let by = accessed_by basis p f x accesses in
      let same : by.1 ≡ done = same_Some by.1 done (sym by.2.is ∙ is) in
      (by.0, ap operand_of (sym same) ∙ by.3, by.4)

  -- what a live point accesses through an operand
  pub accessed_one : (done : Effect) (a : ℕ) (found : Option ℕ) → p < length basis.program.points → live_at basis.program p ≡ true → effect_at basis.program p ≡ Some done → operand_of done ≡ Some a → found ≡ target_at basis.labels a →
      IsTheOne (λ x. (f : ℕ) × Accesses basis p f x) found
  accessed_one done a None within live is through at = λ x accesses.
      let same = access_same done is x accesses.0 accesses.1 in
      let operand : a ≡ same.0 = same_Some a same.0 (sym through ∙ same.1) in
      none-some x (at ∙ ap (target_at basis.labels) operand ∙ same.2)
  accessed_one done a (Some x) within live is through at = record {
    holds = (let of = function_there basis.program p within in (of.0, accessing basis p of.0 x a done (record { live = live; of = of.1; is = is }) through (sym at)));
    only = λ y accesses.
        let same = access_same done is y accesses.0 accesses.1 in
        let operand : a ≡ same.0 = same_Some a same.0 (sym through ∙ same.1) in
        let two : Some x ≡ Some y = at ∙ ap (target_at basis.labels) operand ∙ same.2 in
        sym (same_Some x y two);
  }

  -- and one without an operand accesses nothing
  pub accessed_none : (done : Effect) → effect_at basis.program p ≡ Some done → operand_of done ≡ None → IsTheOne (λ x. (f : ℕ) × Accesses basis p f x) None
  accessed_none done is none = λ x accesses. let same = access_same done is x accesses.0 accesses.1 in none-some same.0 (sym none ∙ same.1)

-- live points are points of functions
pub function_within : (program : Program) (p f : ℕ) → IsInRange program → live_at program p ≡ true → function_at program p ≡ Some f → f < length program.functions
function_within program p f ranged live at =
    elim (slice_get_cases program.points p).1 [
      | inl found ↦
          let known : IsPointInRange (sizes_of program) found.0 = subst (IsPointInRange (sizes_of program)) found.3 (ranged.parts.points p found.0 found.1) in
          let alive : found.0.live ≡ true = sym (ap (λ o. option_map_or (λ (x : Point). x.live) o false) found.2) ∙ live in
          let same : Some found.0.function ≡ Some f = sym (ap (option_map (λ (x : Point). x.function)) found.2) ∙ at in
          subst (λ g. g < length program.functions) (same_Some found.0.function f same) (known.live alive)
      | inr past ↦ absurd (let none : None ≡ Some f = sym (ap (option_map (λ (x : Point). x.function)) past.1) ∙ at in cc)
    ]

-- what a point's value points to is a label
target_within : (labels : LabelTable) (a x : ℕ) → AreLabelsInRange labels → target_at labels a ≡ Some x → x < length labels.entries
target_within labels a x ranged at =
    elim (slice_get_cases labels.targets a).1 [
      | inl found ↦
          let known : IfSome found.0 (λ l. l < length labels.entries) = subst (λ (t : Option ℕ). IfSome t (λ l. l < length labels.entries)) found.3 (ranged.targets a found.0 found.1) in
          let same : found.0 ≡ Some x = sym (ap (option_and_then (λ (t : Option ℕ). t)) found.2) ∙ at in
          subst (λ (t : Option ℕ). IfSome t (λ l. l < length labels.entries)) same known
      | inr past ↦ absurd (let none : None ≡ Some x = sym (ap (option_and_then (λ (t : Option ℕ). t)) past.1) ∙ at in cc)
    ]

module _ (basis : Basis) where
  rises_of : (p f g : ℕ) (way : Way) (child above : Bool) → Rises basis p f way g child above → function_at basis.program p ≡ Some f
  rises_of p f g way child above (run (call _ i does site)) = does.of
  rises_of p f g way child above (run (pointer _ a i does may)) = does.of
  rises_of p f g way child above (start (create _ i does site)) = does.of

  module _ (has : ItemTest) where
    -- an item is of a live point, in its function
    pub item_live : (p f x a : ℕ) (source : Source) (child : Bool) → PointItem basis has p f source child x a → live_at basis.program p ≡ true
    item_live p f x a source child (accessed accesses) = (accessed_by basis p f x accesses).2.live
    item_live p f x a source child (risen {g} {way = way} {child = below} rises there over) = rises_live basis p f g way below child rises

    pub item_function : (p f x a : ℕ) (source : Source) (child : Bool) → PointItem basis has p f source child x a → function_at basis.program p ≡ Some f
    item_function p f x a source child (accessed accesses) = (accessed_by basis p f x accesses).2.of
    item_function p f x a source child (risen {g} {way = way} {child = below} rises there over) = rises_of p f g way below child rises

-- the numbers of an item of a point are in range
module _ (facts : FactTable) (entries : List (Correlation × List ℕ)) (labels_in_range : AreLabelsInRange facts.labels) (origins_in_range : AreOriginsInRange facts.origins) (all : IsSquare facts.origins.all) (inner : IsSquare facts.origins.inner)
    (agree : AreFacts facts) (ranged : AreInRange facts (length facts.labels.entries) entries) where
  subject_within : (p f x a : ℕ) (source : Source) (child : Bool) → PointItem (basis_of facts) (has_of entries) p f source child x a → x < length facts.labels.entries
  subject_within p f x a source child (accessed accesses) = let by = accessed_by (basis_of facts) p f x accesses in target_within facts.labels by.0 x labels_in_range by.4
  subject_within p f x a source child (risen {g} {s} {way = way} {child = below} rises there over) = subst (λ n. x < n) agree.origins (over_within facts.origins origins_in_range all inner way s x over)

  access_within : (p f x a : ℕ) (source : Source) (child : Bool) → PointItem (basis_of facts) (has_of entries) p f source child x a → a < length facts.program.points
  access_within p f x a source child (accessed accesses) = live_within facts.program p (accessed_by (basis_of facts) p f x accesses).2.live
  access_within p f x a source child (risen {g} {s} {way = way} {child = below} rises there over) =
      let found = entry_there entries (item_of g below s a) there in
      (All-contains (IsEntryInRange facts (length facts.labels.entries)) entries (item_of g below s a, found.0) ranged found.1).access

  pub item_within : (f : ℕ) (i : ItemAt) → IsItemOf (basis_of facts) (has_of entries) f i → IsItemInRange facts i
  item_within f i is = record {
    point = live_within facts.program i.point (item_live (basis_of facts) (has_of entries) i.point f i.subject i.access i.source i.child is);
    subject = subject_within i.point f i.subject i.access i.source i.child is;
    access = access_within i.point f i.subject i.access i.source i.child is;
  }

-- the items of a point that accesses something
module _ (facts : FactTable) (entries : List (Correlation × List ℕ)) (p f : ℕ) (at : function_at facts.program p ≡ Some f) where
  -- nothing rises where something is accessed
  apart : (done other : Effect) (a : ℕ) → effect_at facts.program p ≡ Some done → effect_at facts.program p ≡ Some other → operand_of done ≡ Some a → operand_of other ≡ None → ⊥
  apart done other a is is' by none = none-some a (sym none ∙ ap operand_of (same_Some other done (sym is' ∙ is)) ∙ by)

  rises_apart : (x h g k : ℕ) (way : Way) (child above : Bool) → Accesses (basis_of facts) p h x → Rises (basis_of facts) p k way g child above → ⊥
  rises_apart x h g k way child above accesses (run (call _ i does site)) = let by = accessed_by (basis_of facts) p h x accesses in apart by.1 (effect.Runs g) by.0 by.2.is does.is by.3 refl
  rises_apart x h g k way child above accesses (run (pointer _ a i does may)) = let by = accessed_by (basis_of facts) p h x accesses in apart by.1 (effect.RunsThrough a) by.0 by.2.is does.is by.3 refl
  rises_apart x h g k way child above accesses (start (create _ i does site)) = let by = accessed_by (basis_of facts) p h x accesses in apart by.1 (effect.Starts g) by.0 by.2.is does.is by.3 refl

  own_item : (x y a : ℕ) (source : Source) (child : Bool) → IsTheOne (λ z. (h : ℕ) × Accesses (basis_of facts) p h z) (Some x) → PointItem (basis_of facts) (has_of entries) p f source child y a →
      own_access_of p x ≡ record { point = p; source = source; child = child; subject = y; access = a }
  own_item x y a source child is (accessed accesses) = ap (own_access_of p) (sym (is.only y (f, accesses)))
  own_item x y a source child is (risen {g} {way = way} {child = below} rises there over) = absurd (rises_apart x is.holds.0 g f way below child is.holds.1 rises)

  pub own_items : (x : ℕ) → IsTheOne (λ z. (h : ℕ) × Accesses (basis_of facts) p h z) (Some x) → (i : ItemAt) →
      Contains (own_access_of p x ∷ []) i ↔ ((i.point ≡ p) × IsItemOf (basis_of facts) (has_of entries) f i)
  own_items x is i = (
    λ there.
        let same : own_access_of p x ≡ i = one_there (own_access_of p x) i there in (
          ap (λ (j : ItemAt). j.point) (sym same),
          subst (IsItemOf (basis_of facts) (has_of entries) f) same
              (accessed (subst (λ g. Accesses (basis_of facts) p g x) (accesses_of is.holds.0 x is.holds.1) is.holds.1)),
        ),
    λ both.
        let here : PointItem (basis_of facts) (has_of entries) p f i.source i.child i.subject i.access = subst (λ q. PointItem (basis_of facts) (has_of entries) q f i.source i.child i.subject i.access) both.0 both.1 in
        let same = own_item x i.subject i.access i.source i.child is here in
        let whole : own_access_of p x ≡ i = same ∙ (λ d. record { point = sym both.0 d; source = i.source; child = i.child; subject = i.subject; access = i.access }) in
        subst (λ j. Contains (own_access_of p x ∷ []) j) whole (head_there (own_access_of p x) []),
  )
    where
      accesses_of : (h z : ℕ) → Accesses (basis_of facts) p h z → h ≡ f
      accesses_of h z accesses = same_Some h f (sym (accessed_by (basis_of facts) p h z accesses).2.of ∙ at)

  module _ (links : List Link) (are : AreLinksAt (basis_of facts) p links) (numbers : List (List ℕ)) (groups : AreGroups (functions_of entries) numbers) where
    -- what rises from an entry by a link is an item of the point
    from_entry : (link : Link) → IsLink (basis_of facts) p link → (e : Correlation × List ℕ) (m : ℕ) → Contains entries e → e.0.function ≡ link.below → Over (flow_of facts.origins) link.way e.0.subject m →
        PointItem (basis_of facts) (has_of entries) p f (ItemBelow link.way e.0.function e.0.child e.0.subject) (e.0.child || link.starts) m e.0.access
    from_entry link is e m there below over =
        let rises = is.rises e.0.child in
        let of : link.above ≡ f = same_Some link.above f (sym (rises_of (basis_of facts) p link.above link.below link.way e.0.child (e.0.child || link.starts) rises) ∙ at) in
        risen
        (subst (λ g. Rises (basis_of facts) p g link.way e.0.function e.0.child (e.0.child || link.starts)) of
        (subst (λ g. Rises (basis_of facts) p link.above link.way g e.0.child (e.0.child || link.starts)) (sym below) rises))
        (there_found entries e.0 e.1 there) over

    by_entry : (link : Link) → IsLink (basis_of facts) p link → (i : ItemAt) (e : Correlation × List ℕ) → Contains entries e → e.0.function ≡ link.below →
        Contains (items_through facts.origins link e.0) i → (i.point ≡ p) × IsItemOf (basis_of facts) (has_of entries) f i
    by_entry link is i e there below here =
        let found = (in_map (risen_item_of link e.0) (over_list facts.origins link.way e.0.subject) i).0 here in
        let over = (over_is facts.origins link.way e.0.subject found.0).0 (has_id-from_Contains (over_list facts.origins link.way e.0.subject) found.0 found.1) in
        let item = from_entry link is e found.0 there below over in (
          ap (λ (j : ItemAt). j.point) (sym found.2) ∙ is.point,
          subst (IsItemOf (basis_of facts) (has_of entries) f) found.2
              (subst (λ q. PointItem (basis_of facts) (has_of entries) q f (ItemBelow link.way e.0.function e.0.child e.0.subject) (e.0.child || link.starts) found.0 e.0.access) (sym is.point) item),
        )

    -- and each item of the point rises from one by some link
    to_entry : (x a : ℕ) (source : Source) (child : Bool) → IsTheOne (λ z. (h : ℕ) × Accesses (basis_of facts) p h z) None → PointItem (basis_of facts) (has_of entries) p f source child x a →
        Contains (flat_map (items_by facts.origins entries numbers) links) (record { point = p; source = source; child = child; subject = x; access = a })
    to_entry x a source child none (accessed accesses) = absurd (none x (f, accesses))
    to_entry x a source child none (risen {g} {s} {way = way} {child = below} rises there over) =
        let found = are.all f g way below child rises in
        let link = found.0 in
        let by = found.2 in
        let is : IsLink (basis_of facts) p link = All-contains (IsLink (basis_of facts) p) links link are.each found.1 in
        let entry = entry_there entries (item_of g below s a) there in
        let item = item_of g below s a in
        let over' : Over (flow_of facts.origins) link.way s x = subst (λ w. Over (flow_of facts.origins) w s x) (sym by.by) over in
        let listed = Contains-from_has_id (over_list facts.origins link.way s) x ((over_is facts.origins link.way s x).1 over') in
        let mapped = (in_map (risen_item_of link item) (over_list facts.origins link.way s) (risen_item_of link item x)).1 (x, listed, refl) in
        let number = number_at (λ (item : Correlation). item.function) entries numbers groups (item, entry.0) entry.1 in
        let from : Contains (items_from facts.origins entries link number.0) (risen_item_of link item x) =
        subst (λ (o : Option Correlation). Contains (option_map_or (items_through facts.origins link) o []) (risen_item_of link item x)) (sym (ap (option_map (λ (e : Correlation × List ℕ). e.0)) number.2)) mapped in
        let listed_at : Contains (group_at numbers link.below) number.0 = subst (λ h. Contains (group_at numbers h) number.0) (sym by.into) number.1 in
        let same : risen_item_of link item x ≡ record { point = p; source = ItemBelow way g below s; child = child; subject = x; access = a } =
        (λ d. record { point = is.point d; source = ItemBelow (by.by d) g below s; child = by.becomes d; subject = x; access = a }) in
        subst (λ j. Contains (flat_map (items_by facts.origins entries numbers) links) j) same
        ((in_flat_map (items_by facts.origins entries numbers) links (risen_item_of link item x)).1
        (link, found.1, (in_flat_map (items_from facts.origins entries link) (group_at numbers link.below) (risen_item_of link item x)).1 (number.0, listed_at, from)))

    -- the items of a point that accesses nothing
    pub linked_items : IsTheOne (λ z. (h : ℕ) × Accesses (basis_of facts) p h z) None → (i : ItemAt) →
        Contains (flat_map (items_by facts.origins entries numbers) links) i ↔ ((i.point ≡ p) × IsItemOf (basis_of facts) (has_of entries) f i)
    linked_items none i = (
      λ there.
          let by = (in_flat_map (items_by facts.origins entries numbers) links i).0 there in
          let link = by.0 in
          let is : IsLink (basis_of facts) p link = All-contains (IsLink (basis_of facts) p) links link are.each by.1 in
          let found = (in_flat_map (items_from facts.origins entries link) (group_at numbers link.below) i).0 by.2 in
          let at = entry_at (λ (item : Correlation). item.function) entries numbers groups link.below found.0 found.1 in
          by_entry link is i at.0 at.2 at.3
          (subst (λ (o : Option Correlation). Contains (option_map_or (items_through facts.origins link) o []) i) (ap (option_map (λ (e : Correlation × List ℕ). e.0)) at.1) found.2),
      λ both.
          let here : PointItem (basis_of facts) (has_of entries) p f i.source i.child i.subject i.access = subst (λ q. PointItem (basis_of facts) (has_of entries) q f i.source i.child i.subject i.access) both.0 both.1 in
          let whole : record { point = p; source = i.source; child = i.child; subject = i.subject; access = i.access } ≡ i = (λ d. record { point = sym both.0 d; source = i.source; child = i.child; subject = i.subject; access = i.access }) in
          subst (λ j. Contains (flat_map (items_by facts.origins entries numbers) links) j) whole (to_entry i.subject i.access i.source i.child none here),
    )

-- the numbers of a group are those of items
pub number_within : (entries : List (Correlation × List ℕ)) (numbers : List (List ℕ)) (g k : ℕ) → AreGroups (functions_of entries) numbers → Contains (group_at numbers g) k → k < length entries
number_within entries numbers g k groups there = let at = entry_at (λ (item : Correlation). item.function) entries numbers groups g k there in slice_get_within entries k at.0 at.1

-- the points of a group are those of a function
pub point_at : (program : Program) (points : List (List ℕ)) (f p : ℕ) → AreGroups (point_functions program.points) points → Contains (group_at points f) p ↔ (function_at program p ≡ Some f)
point_at program points f p groups =
    let same : slice_get (point_functions program.points) p ≡ function_at program p = slice_get-map (λ (point : Point). point.function) program.points p in (
      λ there. sym same ∙ (groups.each f p).0 there,
      λ of. (groups.each f p).1 (same ∙ of),
    )

-- a point with a function is there
pub point_within : (program : Program) (p f : ℕ) → function_at program p ≡ Some f → p < length program.points
point_within program p f of =
    elim (slice_get_cases program.points p).1 [
      | inl found ↦ found.1
      | inr past ↦ absurd (let none : None ≡ Some f = sym (ap (option_map (λ (x : Point). x.function)) past.1) ∙ of in cc)
    ]

-- the functions of one point more
pub functions_more : (program : Program) (p f : ℕ) → function_at program p ≡ Some f → point_functions (take (p + 1) program.points) ≡ point_functions (take p program.points) ++ f ∷ []
functions_more program p f of =
    elim (slice_get_cases program.points p).1 [
      | inl found ↦
          let is : found.0.function ≡ f = same_Some found.0.function f (sym (ap (option_map (λ (x : Point). x.function)) found.2) ∙ of) in
          ap point_functions (take_more program.points p found.0 found.1)
          ∙ map-append (λ (x : Point). x.function) (take p program.points) (get_or program.points p found.0 ∷ [])
          ∙ ap (λ g. point_functions (take p program.points) ++ g ∷ []) (ap (λ (x : Point). x.function) found.3 ∙ is)
      | inr past ↦ absurd (let none : None ≡ Some f = sym (ap (option_map (λ (x : Point). x.function)) past.1) ∙ of in cc)
    ]

-- a point whose links start nothing has no item of a started thread
module _ (facts : FactTable) (entries : List (Correlation × List ℕ)) (p : ℕ) (links : List Link) (are : AreLinksAt (basis_of facts) p links) (none : All (StartsNothing entries) links) where
  no_child_at : (f x a : ℕ) (source : Source) (child : Bool) → PointItem (basis_of facts) (has_of entries) p f source child x a → child ≡ false
  no_child_at f x a source child (accessed accesses) = refl
  no_child_at f x a source child (risen {g} {s} {way = way} {child = below} rises there over) =
      let found = are.all f g way below child rises in
      let link = found.0 in
      let by = found.2 in
      let starts = All-contains (StartsNothing entries) links link none found.1 in
      let before : below ≡ false = starts.below (item_of g below s a) there (sym by.into) in
      sym by.becomes ∙ ap (λ b. b || link.starts) before ∙ starts.runs

  pub no_child : (f : ℕ) (i : ItemAt) → i.point ≡ p → IsItemOf (basis_of facts) (has_of entries) f i → i.child ≡ false
  no_child f i at is =
      no_child_at f i.subject i.access i.source i.child (subst (λ q. PointItem (basis_of facts) (has_of entries) q f i.source i.child i.subject i.access) at is)
