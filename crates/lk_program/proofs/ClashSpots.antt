-- Where a clash of sources stands: at a place of one of them.
use Rattle.std.proofs.Common.{ℕ, All, List, subst, sym}
use Rattle.lk_base.specs.declared.spot.Spot.{Spot}
use Rattle.lk_link.specs.Clashes.{IsClash, defined_twice, types_differ, library_differs, missing, missing_inside}
use Rattle.lk_link.specs.Sources.{Declares, IsEntity, Units}
use Rattle.lk_link.specs.declared.clash.Clash.{Clash}
use Rattle.lk_spots.proofs.Lists.{at_each}
use Rattle.lk_spots.specs.TypedPlaces.{EntitySpots, TypedUnitSpots}
use Rattle.lk_typed.specs.declared.entity.Declaration.{Declaration}
use Rattle.lk_typed.specs.declared.entity.Entity.{Entity}
use Rattle.lk_types.proofs.KeptLemmas.{read_got}
use Rattle.lk_types.proofs.SizeLemmas.{all_read}

module _ (P : Spot → Type 0) (units : Units) (spots : All (TypedUnitSpots P) units) where
  pub entity_spots : (s e : ℕ) (entity : Entity) → IsEntity units s e entity → EntitySpots P entity
  entity_spots s e entity is = at_each (EntitySpots P) is.unit.entities (all_read (TypedUnitSpots P) units s is.unit spots is.at).entities e entity is.stands

  declared_spot : (s : ℕ) (name : List ℕ) (is : Declaration) → Declares units s name is → P is.spot
  declared_spot s name is of = at_each (λ (declaration : Declaration). P declaration.spot) of.entity.declarations (entity_spots s of.number of.entity of.of).declarations of.place is of.at

  clash_spot : (externs : List (List ℕ)) (clash : Clash) → IsClash units externs clash → P clash.spot
  clash_spot externs clash (defined_twice is) = subst P (sym is.spot) (declared_spot clash.source clash.name is.again is.here.stands.0)
  clash_spot externs clash (types_differ is) = subst P (sym is.spot) (declared_spot clash.source clash.name is.later is.here)
  clash_spot externs clash (library_differs is) = subst P (sym is.spot) (declared_spot clash.source clash.name is.later is.here)
  clash_spot externs clash (missing is) = subst P (sym is.spot) ((entity_spots clash.source is.number is.entity is.of).first_use is.use_ is.used)
  clash_spot externs clash (missing_inside is) =
      let unit = is.0 in
      let e = is.2.0 in
      let entity = is.2.1 in
      let here = is.2.4 in
      let of : IsEntity units clash.source e entity = record { unit = unit; at = is.1; stands = read_got unit.entities e entity is.2.2 (sym is.2.3) } in
      subst P (sym here.spot) ((entity_spots clash.source e entity of).first_use here.use_ here.used)

-- a clash stands at a declaration or a use in one of the sources
pub clash_stands : (P : Spot → Type 0) (units : Units) (externs : List (List ℕ)) (clash : Clash) → All (TypedUnitSpots P) units → IsClash units externs clash → P clash.spot
clash_stands P units externs clash spots is = clash_spot P units spots externs clash is
