-- The places of a program that is put together have nodes of its types.
use Rattle.std.proofs.Common.{◌≡◌, ◌∙◌, All, List, Some, ap, slice_get, subst, sym}
use Rattle.lk_facts.proofs.Sets.{All-got}
use Rattle.lk_facts.specs.declared.place.Place.{Place}
use Rattle.lk_facts.specs.declared.program.Program.{Program}
use Rattle.lk_lower_parts.specs.Cells.{IsPlaceIn}
use Rattle.lk_lower_unit.specs.Lowers.{ArePlaceNodes}
use Rattle.lk_types.specs.Nodes.{IsNode}
use Rattle.lk_types.specs.Table.{Table}

pub place_nodes : (points program : Program) (types : Table) (places : List Place) → points ≡ program → program.types ≡ types → program.places ≡ places → All (IsPlaceIn types) places → ArePlaceNodes points
place_nodes points program types places same of_types of_places nodes = λ n place at.
    let found : slice_get places n ≡ Some place = subst (λ (list : List Place). slice_get list n ≡ Some place) (ap (λ (p : Program). p.places) same ∙ of_places) at in
    subst (λ (table : Table). IsNode table place.node) (sym (ap (λ (p : Program). p.types) same ∙ of_types)) (All-got (IsPlaceIn types) places n place nodes found)
