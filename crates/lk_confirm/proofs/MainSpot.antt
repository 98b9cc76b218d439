-- Where the program's `main` stands: at a declaration of the source that defines it.
use Rattle.std.proofs.Common.{◌≡◌, ◌∙◌, inl, inr, ℕ, All, Bool, true, false, if◌then◌else◌, List, [], ◌∷◌, None, Option, Some, ap, sym}
use Rattle.std.proofs.lemmas.Option.{none-some, same_Some, slice_get-map}
use Rattle.std.specs.List.{find, slice_get}
use Rattle.std.specs.Option.{option_and_then, option_map, option_or}
use Rattle.lk_base.specs.declared.spot.Spot.{Spot}
use Rattle.lk_join.specs.Joining.{units_of}
use Rattle.lk_lower_expr.specs.Lowering.{declaration_of, is_tentative, is_whole}
use Rattle.lk_lower_parts.specs.Mains.{spot_of_main}
use Rattle.lk_lower_parts.specs.Sources.{entity_in}
use Rattle.lk_lower_parts.specs.Wholes.{HasMain}
use Rattle.lk_spots.specs.TypedPlaces.{TypedUnitSpots}
use Rattle.lk_typed.specs.Stands.{IsIn}
use Rattle.lk_typed.specs.declared.entity.Declaration.{Declaration}
use Rattle.lk_typed.specs.declared.entity.Entity.{Entity}
use Rattle.lk_typed.specs.declared.whole.Linked.{Linked}
use Rattle.lk_typed.specs.declared.whole.Whole.{Whole}
use Rattle.lk_program.proofs.ClashSpots.{entity_spots}

-- ---- the declaration that counts

found_in : (test : Declaration → Bool) (list : List Declaration) (x : Declaration) → find test list ≡ Some x → IsIn x list
found_in test [] x is = absurd (none-some x is)
found_in test (y ∷ list) x is = by_test (test y) y x list (find test list) is (found_in test list x)
  where
    by_test : (b : Bool) (y x : Declaration) (list : List Declaration) (rest : Option Declaration) → (if b then Some y else rest) ≡ Some x → (rest ≡ Some x → IsIn x list) → IsIn x (y ∷ list)
    by_test true y x list rest is others = inl (sym (same_Some y x is))
    by_test false y x list rest is others = inr (others is)

-- it is one of the entity's declarations
among : (entity : Entity) (by : Declaration) → declaration_of entity ≡ Some by → IsIn by entity.declarations
among entity by =
    counted entity.declarations (find (λ is. is_whole is.defines) entity.declarations) (find (λ is. is_tentative is.defines) entity.declarations)
    (found_in (λ is. is_whole is.defines) entity.declarations by) (found_in (λ is. is_tentative is.defines) entity.declarations by)
  where
    counted : (list : List Declaration) (first second : Option Declaration) → (first ≡ Some by → IsIn by list) → (second ≡ Some by → IsIn by list) →
        option_or first (option_or second (slice_get list 0)) ≡ Some by → IsIn by list
    counted list (Some a) second in_first in_second is = in_first is
    counted list None (Some b) in_first in_second is = in_second is
    counted [] None None in_first in_second is = absurd (none-some by is)
    counted (x ∷ list) None None in_first in_second is = inl (sym (same_Some x by is))

-- ---- the source that defines main

module _ (whole : Whole) (main : HasMain whole) where
  spot_is : spot_of_main whole ≡ Some main.is.declared.by.spot
  spot_is =
      let e = main.number in
      let spot : Option Declaration → Option Spot = option_map (λ by. by.spot) in
      ap (λ definition. spot (option_and_then declaration_of (option_and_then (λ (at : ℕ × ℕ). entity_in whole at.0 at.1) definition))) main.defined
      ∙ ap (λ linked. spot (option_and_then declaration_of (option_and_then (λ (l : Linked). slice_get l.unit.entities e) linked))) main.is.at
      ∙ ap (λ entity. spot (option_and_then declaration_of entity)) main.is.declared.at ∙ ap spot main.is.declared.declared

  -- the program's main stands in its definition, and where each place in the sources has a property, so has its place
  pub main_stands : (spot : Spot) × (spot_of_main whole ≡ Some spot) × ((P : Spot → Type 0) → All (TypedUnitSpots P) (units_of whole) → P spot)
  main_stands =
      let s = main.source in
      let is = main.is in
      let unit_at = slice_get-map (λ (l : Linked). l.unit) whole.sources s ∙ ap (option_map (λ (l : Linked). l.unit)) is.at in (
        is.declared.by.spot,
        spot_is,
        λ P spots. (entity_spots P (units_of whole) spots s main.number is.declared.entity (record { unit = is.linked.unit; at = unit_at; stands = is.declared.at })).declarations is.declared.by
            (among is.declared.entity is.declared.by is.declared.declared),
      )
