-- Where a cell has no location, and where it has one.
use Rattle.std.proofs.Common.{◌≡◌, ℕ, Option, None, Some, sym, ap, ◌∙◌}
use Rattle.std.proofs.lemmas.Option.{none-some, same_Some}
use Rattle.std.specs.Option.{option_and_then}
use Rattle.std.specs.Prelude.{slice_get}
use Rattle.lk_types.specs.Nodes.{IsNode, node_of}
use Rattle.lk_types.specs.declared.node.NodeId.{NodeId}
use Rattle.lk_types.proofs.PathLemmas.{equal_nodes_have_equal_ids}
use Rattle.lk_facts.specs.Places.{IsNumberOf}
use Rattle.lk_facts.specs.Program.{place_of}
use Rattle.lk_facts.specs.declared.place.Place.{Place}
use Rattle.lk_facts.specs.declared.program.Program.{Program}
use Rattle.lk_values.specs.declared.cell.Cell.{Cell}
use Rattle.lk_cells.specs.declared.object.Object.{Object}
use Rattle.lk_cells.specs.declared.state.State.{State}
use Rattle.lk_meaning.specs.Locations.{IsLocation, node_at, node_of_cell}

one_place : (place : Place) (root : ℕ) (node : NodeId) → place.root ≡ root → place.node ≡ node → place ≡ place_of root node
one_place place root node a b = ap (λ r. place_of r place.node) a ∙ ap (λ n. place_of root n) b

module _ (program : Program) (s : State) (c : Cell) where
  -- no object of the cell's number is there
  pub none_there : slice_get s.objects c.object ≡ None → IsLocation program s c None
  none_there missing = λ n has. none-some (has.place.root, node_of program.types has.place.node) (sym (ap (λ o. option_and_then (λ x. node_at program x c.path) o) missing) ∙ has.is)

  node_there : (object : Object) → slice_get s.objects c.object ≡ Some object → node_of_cell program s c ≡ node_at program object c.path
  node_there object is = ap (λ o. option_and_then (λ x. node_at program x c.path) o) is

  -- the object has no location at the cell's path
  pub no_node : (object : Object) → slice_get s.objects c.object ≡ Some object → None ≡ node_at program object c.path → IsLocation program s c None
  no_node object is none = λ n has. none-some (has.place.root, node_of program.types has.place.node) (none ∙ sym (node_there object is) ∙ has.is)

  -- the object has one, of which this is the number
  pub at_node : (object : Object) (node : NodeId) (found : Option ℕ) → slice_get s.objects c.object ≡ Some object → Some (object.root, node_of program.types node) ≡ node_at program object c.path →
      IsNode program.types node → IsNumberOf program.places (place_of object.root node) found → IsLocation program s c found
  at_node object node (Some n) is at known number = record { place = place_of object.root node; number = number; known = known; is = node_there object is ∙ sym at }
  at_node object node None is at known missing = λ n has.
      let same = same_Some (object.root, node_of program.types node) (has.place.root, node_of program.types has.place.node) (at ∙ sym (node_there object is) ∙ has.is) in
      let root : has.place.root ≡ object.root = sym (ap (λ x. x.0) same) in
      let id : has.place.node ≡ node = equal_nodes_have_equal_ids program.types has.place.node node has.known known (sym (ap (λ x. x.1) same)) in
      missing n (has.number ∙ ap (λ place. Some place) (one_place has.place object.root node root id))
