-- The points and the roots of a program stand at places of the typed trees that it is made of.
use Rattle.std.proofs.Common.{arith, inl, inr, ◌≡◌, ◌∙◌, ◌<◌, ◌≤◌, ◌-◌, ℕ, zero, suc, List, [], ◌∷◌, Option, Some, length, map, slice_get, refl, sym, ap, subst}
use Rattle.std.proofs.lemmas.Bool.{cases_lt}
use Rattle.std.proofs.lemmas.List.Elements.{All-contains, All-from_recursion, All-head, All-tail}
use Rattle.std.proofs.lemmas.Option.{none-some, same_Some, slice_get_within}
use Rattle.std.specs.List.{All, find}
use Rattle.std.specs.Option.{option_or}
use Rattle.lk_base.specs.declared.spot.Spot.{Spot}
use Rattle.lk_facts.specs.Program.{root_at}
use Rattle.lk_facts.specs.declared.point.Point.{Point}
use Rattle.lk_facts.specs.declared.program.Program.{Program}
use Rattle.lk_facts.specs.declared.root.Root.{Root}
use Rattle.lk_lower_expr.specs.Lowering.{Numbers, ArePoints, StandsIn, declaration_of, is_tentative, is_whole, names_in, object_root, of_body, of_static, place_in_body}
use Rattle.lk_lower_expr.specs.Owned.{Owned, owned_by, of_static_parts}
use Rattle.lk_lower_expr.specs.Programs.{AreRoots, HaveArguments, IsDefined, IsRoot, Owns, arguments, in_body, in_static, of_allocation, of_function, of_local, of_object, of_text}
use Rattle.lk_lower_expr.specs.declared.step.Step.{Step}
use Rattle.lk_spots.specs.Places.{Each, IfThere}
use Rattle.lk_spots.specs.TypedPlaces.{BodySpots, EntitySpots, ObjectSpots, TypedUnitSpots}
use Rattle.lk_typed.specs.declared.entity.Declaration.{Declaration}
use Rattle.lk_typed.specs.declared.entity.Entity.{Entity}
use Rattle.lk_typed.specs.declared.expression.Storage.TheVariants as storage
use Rattle.lk_typed.specs.declared.unit.Body.{Body}
use Rattle.lk_typed.specs.declared.unit.Local.{Local}
use Rattle.lk_typed.specs.declared.whole.Linked.{Linked}
use Rattle.lk_typed.specs.declared.whole.Whole.{Whole}
use Rattle.lk_typed.specs.declared.whole.WholeEntity.{WholeEntity}
use Rattle.lk_types.specs.Table.{type_at}
use Rattle.lk_point_spots.specs.Laws as laws
use Rattle.lk_point_spots.proofs.Declared.{static_spots}
use Rattle.lk_spots.proofs.Lists.{at_each}
use Rattle.lk_point_spots.proofs.Lists.{same_there, contained, all_by_number, if_or, if_found}
use Rattle.lk_point_spots.proofs.Owners.{OwnedSpot, static_owned}
use Rattle.lk_point_spots.proofs.StatementOwners.{stmt_owned}
use Rattle.lk_point_spots.proofs.Statements.{body_spots}
use Rattle.lk_point_spots.proofs.Walks.{step_place}

-- the unit of each source
unit_at : (P : Spot → Type 0) (sources : List Linked) → All (TypedUnitSpots P) (map (λ (linked : Linked). linked.unit) sources) → (s : ℕ) (linked : Linked) →
    slice_get sources s ≡ Some linked → TypedUnitSpots P linked.unit
unit_at P [] all s linked is = absurd (none-some linked is)
unit_at P (first ∷ sources) all zero linked is =
    subst (λ (one : Linked). TypedUnitSpots P one.unit) (same_Some first linked is) (All-head (TypedUnitSpots P) first.unit (map (λ (one : Linked). one.unit) sources) all)
unit_at P (first ∷ sources) all (suc s) linked is = unit_at P sources (All-tail (TypedUnitSpots P) first.unit (map (λ (one : Linked). one.unit) sources) all) s linked is

module _ (P : Spot → Type 0) (nowhere : P (record { file = 0; line = 0; col = 0 })) (whole : Whole) (numbers : Numbers) (program : Program)
    (units : (s : ℕ) (linked : Linked) → slice_get whole.sources s ≡ Some linked → TypedUnitSpots P linked.unit) where
  body_at : (s : ℕ) (linked : Linked) (b : ℕ) (body : Body) → slice_get whole.sources s ≡ Some linked → slice_get linked.unit.bodies b ≡ Some body → BodySpots P body
  body_at s linked b body source at = at_each (BodySpots P) linked.unit.bodies (units s linked source).bodies b body at

  -- ---- points

  declared_spot : (s : ℕ) (linked : Linked) (locals : List Local) → Each (λ (local : Local). P local.spot) locals → (l : ℕ) → P ((names_in whole numbers s linked locals).declared l).spot
  declared_spot s linked [] each l = nowhere
  declared_spot s linked (local ∷ locals) each zero = each local (inl refl)
  declared_spot s linked (local ∷ locals) each (suc l) = declared_spot s linked locals (λ a is. each a (inr is)) l

  step_spot : {s o k : ℕ} {is : Step} {function : ℕ} → StandsIn whole numbers program s o k is function → P is.spot
  step_spot {s} (of_body linked b body source at one) =
      let spots = body_at s linked b body source at in
      step_place P one
      (body_spots P (names_in whole numbers s linked body.locals) (place_in_body whole numbers s linked body.locals) (declared_spot s linked body.locals spots.locals)
      body.ordinal body.spot body.block spots.spot spots.block)
  step_spot {s} (of_static linked object entity source among at one) =
      let spots = contained (ObjectSpots P) linked.unit.objects (units s linked source).objects object among in
      step_place P one
      (static_spots P (names_in whole numbers s linked []) (record { ordinal = object.ordinal; spot = object.spot; type = entity.ty })
      (object_root whole numbers s [] (storage.Entity object.entity)) object.parts spots.spot spots.parts)

  point_spot : ArePoints whole numbers program → (n : ℕ) (point : Point) → slice_get program.points n ≡ Some point → P point.spot
  point_spot are n point at =
      let found = are.order.onto n (slice_get_within program.points n point at) in
      let of = are.each found.0 found.1 found.2 found.3.0 found.3.1 found.3.2 in
      let number : numbers.point found.0 found.1 found.2 ≡ n = omega (arith, found.4) in
      let same : of.point ≡ point = same_there program.points (numbers.point found.0 found.1 found.2) n of.point point number of.at at in
      subst P (sym of.stands ∙ ap (λ (p : Point). p.spot) same) (step_spot found.3.2)

  -- ---- roots

  abbrev DeclarationSpot : Declaration → Type 0
  DeclarationSpot declaration = P declaration.spot

  counted_spot : (entity : Entity) → EntitySpots P entity → IfThere DeclarationSpot (declaration_of entity)
  counted_spot entity spots =
      let list = entity.declarations in
      let wholes = find (λ (is : Declaration). is_whole is.defines) list in
      let tentative = find (λ (is : Declaration). is_tentative is.defines) list in
      if_or DeclarationSpot wholes (option_or tentative (slice_get list 0)) (if_found DeclarationSpot (λ (is : Declaration). is_whole is.defines) list spots.declarations)
      (if_or DeclarationSpot tentative (slice_get list 0) (if_found DeclarationSpot (λ (is : Declaration). is_tentative is.defines) list spots.declarations)
      (at_each DeclarationSpot list spots.declarations 0))

  defined_spot : {s e : ℕ} {linked : Linked} {entity : Entity} {here : WholeEntity} {by : Declaration} → IsDefined whole s e linked entity here by → P by.spot
  defined_spot {s} {e} {linked} {entity} {here} {by} is =
      counted_spot entity (at_each (EntitySpots P) linked.unit.entities (units s linked is.source).entities e entity is.at) by is.declared

  owned_spot : {s : ℕ} {linked : Linked} {owned : Owned} {function : Option ℕ} → Owns whole numbers program s linked owned function → OwnedSpot P owned
  owned_spot {s} {linked} {owned} (in_body b body is has) =
      let list = owned_by (type_at linked.unit.types) body.block in
      All-contains (OwnedSpot P) list owned (All-from_recursion (OwnedSpot P) list (stmt_owned P (type_at linked.unit.types) (body_at s linked b body is.source is.at).block)) has
  owned_spot {s} {linked} {owned} (in_static object source among has) =
      let list = of_static_parts (type_at linked.unit.types) object.parts in
      let spots = contained (ObjectSpots P) linked.unit.objects (units s linked source).objects object among in
      All-contains (OwnedSpot P) list owned (All-from_recursion (OwnedSpot P) list (static_owned P (type_at linked.unit.types) object.parts spots.parts)) has

  root_spot : {s o : ℕ} {is : Root} → IsRoot whole numbers program s o is → P is.spot
  root_spot (of_object e linked entity here by is object) = defined_spot is
  root_spot (of_function b linked body entity here by of is) = defined_spot is
  root_spot {s} (of_local b l linked body is of at not_slot) = at_each (λ (local : Local). P local.spot) body.locals (body_at s linked b body of.source of.at).locals l is at
  root_spot (of_text linked node bytes function owns) = owned_spot owns
  root_spot (of_allocation linked node t u single function owns type) = owned_spot owns

  argument_spot : (parameters : ℕ) (at : Spot) → P at → HaveArguments whole numbers program parameters at → (n : ℕ) (root : Root) → n < arguments whole numbers program parameters →
      root_at program n ≡ Some root → P root.spot
  argument_spot zero at place have n root within is = absurd (omega (arith, within))
  argument_spot (suc parameters) at place have zero root within is = subst P (ap (λ (r : Root). r.spot) (same_there program.roots 0 0 _ root refl have.argv is)) place
  argument_spot (suc parameters) at place have (suc zero) root within is = subst P (ap (λ (r : Root). r.spot) (same_there program.roots 1 1 _ root refl have.args is)) place
  argument_spot (suc parameters) at place have (suc (suc n)) root within is = absurd (omega (arith, within))

  other_spot : (are : AreRoots whole numbers program) (n : ℕ) (root : Root) → arguments whole numbers program are.body.parameters ≤ n → root_at program n ≡ Some root → P root.spot
  other_spot are n root behind is =
      let first = arguments whole numbers program are.body.parameters in
      let within : n < length program.roots = slice_get_within program.roots n root is in
      let before : n - first < length program.roots - first = omega (arith, within, behind) in
      let found = are.order.onto (n - first) before in
      let number : numbers.root found.0 found.1 ≡ n = omega (arith, found.4, behind) in
      let same : found.3.1.0 ≡ root = same_there program.roots (numbers.root found.0 found.1) n found.3.1.0 root number (are.each found.0 found.1 found.3.1.0 found.3.1.1) is in
      subst P (ap (λ (r : Root). r.spot) same) (root_spot found.3.1.1)

  each_root_spot : AreRoots whole numbers program → (n : ℕ) (root : Root) → root_at program n ≡ Some root → P root.spot
  each_root_spot are n root is = elim (cases_lt n (arguments whole numbers program are.body.parameters)) [
    | inl before ↦ argument_spot are.body.parameters are.by.spot (defined_spot are.main.is) are.arguments_ n root before is
    | inr behind ↦ other_spot are n root behind is
  ]

-- ---- the law

pub points_stand_in_files : laws.PointsStandInFiles
points_stand_in_files files whole program some filed (numbers, made) =
    let units = unit_at (λ spot. spot.file < files) whole.sources filed in (
      all_by_number (λ (root : Root). root.spot.file < files) program.roots (each_root_spot (λ spot. spot.file < files) some whole numbers program units made.roots),
      all_by_number (λ (point : Point). point.spot.file < files) program.points (point_spot (λ spot. spot.file < files) some whole numbers program units made.points),
    )
