-- Cells that threads are about to touch: what the operand of the access points to has the cell's origin in All of its label.
use Rattle.std.proofs.Common.{◌≡◌, ◌<◌, ℕ, Bool, true, false, List, Option, Some, None, refl, sym, ap, subst, ◌∙◌, length}
use Rattle.std.proofs.lemmas.Option.{none-some, same_Some, slice_get_within}
use Rattle.std.specs.List.{slice_get}
use Rattle.std.specs.Option.{option_map, option_map_or, option_and_then}
use Rattle.std.specs.Prelude.{MatchOption, if◌then◌else◌}
use Rattle.lk_base.specs.declared.cell.CellStep.{CellStep}
use Rattle.lk_cells.specs.Cells.{kind_at}
use Rattle.lk_cells.specs.Parts.{node_along}
use Rattle.lk_cells.specs.declared.object.Object.{Object}
use Rattle.lk_cells.specs.declared.state.State.{State}
use Rattle.lk_facts.specs.EdgeRules.{value, target}
use Rattle.lk_facts.specs.Flow.{Flow}
use Rattle.lk_facts.specs.LabelRules.{IsPart, IsOrigin, IsPlaceNumber, IsTargetOf}
use Rattle.lk_facts.specs.Labels.{LabelTable, is_origin_at, target_at}
use Rattle.lk_facts.specs.PathTables.{IsClosed}
use Rattle.lk_facts.specs.Program.{place_of, value_type_at}
use Rattle.lk_facts.specs.declared.edge.Edge.{Edge}
use Rattle.lk_facts.specs.declared.label_entry.LabelEntry.{LabelEntry}
use Rattle.lk_facts.specs.declared.label_entry.LabelName.{LabelName}
use Rattle.lk_facts.specs.declared.place.Place.{Place}
use Rattle.lk_facts.specs.declared.point.Point.{Point}
use Rattle.lk_facts.specs.declared.program.Program.{Program}
use Rattle.lk_facts.specs.declared.root.Root.{Root as RootOf}
use Rattle.lk_laws.proofs.Walking.{up_down}
use Rattle.lk_meaning.specs.Locations.{HasLocation, has_locations, is_value, node_in, node_at}
use Rattle.lk_right.proofs.Cells.{one_target, within_node}
use Rattle.lk_right.specs.Contexts.{Home, Contexts}
use Rattle.lk_right.specs.Laws.{IsAnalysed}
use Rattle.lk_right.specs.Right.{IsPlaceAt, IsPointerRight}
use Rattle.lk_right.specs.Sound.{IsSound, accessed_at}
use Rattle.lk_sound.proofs.PlaceNumbers.{element_at, place_number}
use Rattle.lk_sound.specs.Soundness.{IsAccessSound}
use Rattle.lk_types.proofs.PathLemmas.{equal_nodes_have_equal_ids}
use Rattle.lk_types.specs.Nodes.{Node, node_of, first}
use Rattle.lk_types.specs.declared.node.Base.TheVariants.{Start}
use Rattle.lk_types.specs.declared.node.NodeId.{NodeId}
use Rattle.lk_types.specs.declared.node.Sel.TheVariants.{Target}
use Rattle.lk_values.specs.declared.cell.Cell.{Cell}
use Rattle.lk_values.specs.declared.cell.Pointer.{Pointer as PointerTo}

-- a location is a part of an object's root
module _ (program : Program) (object : Object) (path : List CellStep) (r : ℕ) (n : Node) where
  record IsFoundIn (root : RootOf) : Type 0 where
    root_is : object.root ≡ r
    leads : node_along program.types (first (Start root.ty)) path ≡ Some n

  by_kind : (root : RootOf) (b : Bool) (found : Option Node) → node_along program.types (first (Start root.ty)) path ≡ found → (if b then option_map {U = ℕ × Node} (λ m. (object.root, m)) found else None) ≡ Some (r, n) → IsFoundIn root
  by_kind root true None at h = absurd (none-some (r, n) h)
  by_kind root true (Some m) at h =
      let parts = same_Some (object.root, m) (r, n) h in
      record { root_is = ap (λ x. x.0) parts; leads = at ∙ ap (λ x. Some x.1) parts }
  by_kind root false found at h = absurd (none-some (r, n) h)

  by_root : (found : Option RootOf) → option_and_then (node_in program object path) found ≡ Some (r, n) → (root : RootOf) × (found ≡ Some root) × IsFoundIn root
  by_root None h = absurd (none-some (r, n) h)
  by_root (Some root) h = (root, refl, by_kind root (has_locations root.kind) (node_along program.types (first (Start root.ty)) path) refl h)

  by_value : (b : Bool) → (if b then option_and_then (node_in program object path) (slice_get program.roots object.root) else None) ≡ Some (r, n) → (root : RootOf) × (slice_get program.roots object.root ≡ Some root) × IsFoundIn root
  by_value true h = by_root (slice_get program.roots object.root) h
  by_value false h = absurd (none-some (r, n) h)

  found_in : node_at program object path ≡ Some (r, n) → (root : RootOf) × (slice_get program.roots object.root ≡ Some root) × IsFoundIn root
  found_in h = by_value (is_value (kind_at program.types object path)) h

one_place_is : (place : Place) (r : ℕ) (n : NodeId) → place.root ≡ r → place.node ≡ n → place ≡ place_of r n
one_place_is place r n h k = ap (λ q. place_of q place.node) h ∙ ap (λ m. place_of r m) k

one_root : (x y : RootOf) → Some x ≡ Some y → x ≡ y
one_root x y h = cc

-- the origin of a cell is its location, where it has one
located : (program : Program) (s : State) (cell : Cell) (n : ℕ) → HasLocation program s cell n → (object : Object) → slice_get s.objects cell.object ≡ Some object → (name : LabelName) → IsPlaceAt program object.root cell.path name →
    IsPlaceNumber program name n
located program s cell n location object there name place =
    let at : node_at program object cell.path ≡ Some (location.place.root, node_of program.types location.place.node) = ap (λ o. option_and_then (λ x. node_at program x cell.path) o) (sym there) ∙ location.is in
    let found = found_in program object cell.path location.place.root (node_of program.types location.place.node) at in
    let types : found.0.ty ≡ place.ty = ap (λ (x : RootOf). x.ty) (one_root found.0 place.of.0 (sym found.1 ∙ place.of.1)) ∙ place.of.2 in
    let leads = subst (λ t. node_along program.types (first (Start t)) cell.path ≡ Some (node_of program.types location.place.node)) types found.2.leads in
    let nodes = equal_nodes_have_equal_ids program.types location.place.node name.node location.known (within_node program place.within) (same_Some _ _ (sym leads ∙ place.leads)) in
    (object.root, place.holder, location.number ∙ ap Some (one_place_is location.place object.root name.node (sym found.2.root_is) nodes))

module _ (program : Program) (labels : LabelTable) (es : List Edge) (ok : IsAnalysed program labels es) where
  abbrev Named : ℕ → LabelName → Type 0
  Named l x = slice_get labels.names l ≡ Some x

  value_point : (a t : ℕ) → value_type_at program a ≡ Some t → a < length program.points
  value_point a t h = by (slice_get program.points a) refl h
    where
      by : (o : Option Point) → slice_get program.points a ≡ o → option_and_then (λ point. point.value) o ≡ Some t → a < length program.points
      by None e h = absurd (none-some t h)
      by (Some point) e h = slice_get_within program.points a point e

  -- the label of what a point's value points to is the one that the table gives
  pub target_number : (a l : ℕ) (y : LabelName) → target program a y → Named l y → target_at labels a ≡ Some l
  target_number a l y is named =
      let known = value_point a is.1.ty is.1.has in
      let there = element_at labels.targets a (subst (λ n. a < n) (sym ok.labelled.points) known) in
      ap (λ o. option_and_then (λ target. target) o) there.1 ∙ by there.0 (ok.labelled.targets a there.0 there.1)
    where
      by : (found : Option ℕ) → MatchOption found ((k : ℕ) → IsTargetOf program labels a k → ⊥) (IsTargetOf program labels a) → found ≡ Some l
      by None none = absurd (none l (is.0, y, is.1, is.2, named))
      by (Some k) at =
          let same = one_target program a at.1 y (at.0, at.2, at.3) is in
          ap Some (ok.labelled.different k l y (subst (Named k) same at.4) named)

  -- the table knows the label of a place for an origin
  pub origin_known : (l r : ℕ) (path : List CellStep) (x : LabelName) → Named l x → IsPlaceAt program r path x → is_origin_at labels l ≡ true
  origin_known l r path x named place =
      let entry = element_at labels.entries l (subst (λ n. l < n) ok.few_labels.named (slice_get_within labels.names l x named)) in
      let is : IsOrigin program x = (r, place.ty, place.holder, place.of, place.within) in
      ap (λ o. option_map_or (λ (entry : LabelEntry). entry.is_origin) o false) entry.1 ∙ (ok.labelled.entries l x entry.0 named entry.1).origin.1 is

  -- through a pointer that is right for the operand, and leads to its target
  module _ (flow : Flow) (closed : IsClosed es labels flow) (contexts : Contexts) (s : State) (sound : IsSound program labels es contexts s) where
    record IsAtHome (home : Home) (o : ℕ) : Type 0 where
      object : Object
      there : slice_get s.objects o ≡ Some object
      root : object.root ≡ home.root

    at_home : (o : ℕ) (home : Home) → slice_get contexts.homes o ≡ Some home → IsAtHome home o
    at_home o home lives =
        let there = element_at s.objects o (subst (λ n. o < n) sound.objects_many (slice_get_within contexts.homes o home lives)) in
        record { object = there.0; there = there.1; root = (sound.objects o there.0 home there.1 lives).root }

    pub access_right : (p a : ℕ) (c : List ℕ) (at : PointerTo) → accessed_at program p ≡ Some a → (right : IsPointerRight program labels es contexts.homes at (value program a) c) → IsPart program right.held_by Target right.aim →
        IsAccessSound program labels flow s p at.part
    access_right p a c at accesses right leads =
        let found = at_home at.part.object right.home right.lives_in in
        let place : IsPlaceAt program found.object.root at.part.path right.origin = subst (λ r. IsPlaceAt program r at.part.path right.origin) (sym found.root) right.place in
        record {
          operand = a;
          accesses = accesses;
          label = right.flows.to;
          leads = target_number a right.flows.to right.aim (right.held_by, right.is, leads) right.flows.to_at;
          origin = right.flows.from;
          of = record { object = found.object; there = found.there; name = right.origin; named = right.flows.from_at; place = place };
          location = λ n location. place_number program labels es ok right.flows.from n right.origin right.flows.from_at (located program s at.part n location found.object found.there right.origin place);
          all = up_down es labels flow closed right.flows.from right.flows.to right.home.context c (origin_known right.flows.from right.home.root at.part.path right.origin right.flows.from_at right.place) right.flows.walk;
        }
