-- Steps that are added to others, one part of a source after the other.
use Rattle.std.proofs.Common.{ap, sym, subst, ◌∙◌, ◌≡◌, ◌<◌, ◌+◌, ℕ, List, [], ◌++◌, ◌∷◌, Option, None, Some, drop, drop-cons, length, get_or, add-one, append_assoc, All, refl}
use Rattle.std.specs.Prelude.{◌^◌, suc, slice_get}
use Rattle.lk_base.specs.declared.cell.CellStep.{CellStep}
use Rattle.lk_lower_expr.specs.Naming.{AreFew, names_of}
use Rattle.lk_lower_expr.specs.Statements.{body_walk}
use Rattle.lk_lower_expr.specs.Names.{Names}
use Rattle.lk_lower_expr.specs.Statics.{static_walk}
use Rattle.lk_lower_expr.specs.declared.names.LocalNames.{LocalNames}
use Rattle.lk_lower_expr.specs.declared.names.SourceNames.{SourceNames}
use Rattle.lk_lower_unit.specs.Bodies.{IsSameSource, all_standing, cell_place, names_by_locals, places_by_locals, steps_of_bodies, steps_of_static, steps_of_statics, walk_of_body, with_locals}
use Rattle.lk_lower_unit.specs.Stands.{NamesBy, PlacesBy, declared_node}
use Rattle.lk_lower_unit.specs.declared.standing.StandingStep.{StandingStep}
use Rattle.lk_typed.specs.declared.expression.Storage.TheVariants as storage
use Rattle.lk_typed.specs.declared.entity.Entity.{Entity}
use Rattle.lk_typed.specs.declared.initialiser.StaticObject.{StaticObject}
use Rattle.lk_typed.specs.declared.unit.Body.{Body}
use Rattle.lk_typed.specs.declared.unit.Local.{Local}
use Rattle.lk_types.specs.Table.{Table}
use Rattle.lk_types.specs.declared.node.NodeId.{NodeId}

-- from an index on stands what is there, and then the others
pub from_index : {A : Type 0} (xs : List A) (i : ℕ) (x : A) → i < length xs → x ≡ get_or xs i x → drop i xs ≡ x ∷ drop (i + 1) xs
from_index xs i x inside is = drop-cons xs i x inside ∙ ap (λ y. y ∷ drop (suc i) xs) (sym is) ∙ ap (λ n. x ∷ drop n xs) (sym (add-one i))

-- what is left begins with what is added next
pub one_more : {A : Type 0} (old whole mid left more rest new : List A) → old ++ whole ≡ mid ++ left → left ≡ more ++ rest → new ≡ mid ++ more → old ++ whole ≡ new ++ rest
one_more old whole mid left more rest new so begins added = so ∙ ap (λ xs. mid ++ xs) begins ∙ sym (append_assoc mid more rest) ∙ sym (ap (λ xs. xs ++ rest) added)

pub same_then : (old mid new : SourceNames) → IsSameSource old mid → IsSameSource mid new → IsSameSource old new
same_then old mid new first then_ = record {
  bases = then_.bases ∙ first.bases;
  by_node = then_.by_node ∙ first.by_node;
  types = then_.types ∙ first.types;
  pointers = then_.pointers ∙ first.pointers;
  objects = then_.objects ∙ first.objects;
  functions = then_.functions ∙ first.functions;
  defined = then_.defined ∙ first.defined;
}

pub still_few : (old new : SourceNames) → IsSameSource old new → AreFew old → AreFew new
still_few old new same few = subst (λ bases. All (λ base. base < 2 ^ 31) bases) (sym same.bases) few

module _ (old new : SourceNames) (same : IsSameSource old new) where
  with_same : (locals : List Local) → with_locals new locals ≡ with_locals old locals
  with_same locals = rw (same.bases, same.by_node, same.types, same.pointers, same.objects, same.functions, same.defined) refl

  -- the steps of a body don't depend on whose locals stood there before
  pub same_steps : (table : Table) (node : ℕ → List CellStep → NodeId) (function : ℕ) (body : Body) →
      all_standing function (walk_of_body (names_by_locals table new) (places_by_locals node new) body) ≡ all_standing function (walk_of_body (names_by_locals table old) (places_by_locals node old) body)
  same_steps table node function body =
      ap (λ (w : SourceNames). all_standing function (body_walk (names_of table w) (cell_place node w) body.ordinal body.spot body.block)) (with_same body.locals)

-- the steps of the next body, and then those of the others
pub bodies_more : (names : NamesBy) (places : PlacesBy) (function next i : ℕ) (bodies : List Body) (body : Body) → i < length bodies → body ≡ get_or bodies i body → next ≡ function + 1 →
    steps_of_bodies names places function (drop i bodies) ≡ all_standing function (walk_of_body names places body) ++ steps_of_bodies names places next (drop (i + 1) bodies)
bodies_more names places function next i bodies body inside is nexts =
    ap (steps_of_bodies names places function) (from_index bodies i body inside is) ∙
    ap (λ n. all_standing function (walk_of_body names places body) ++ steps_of_bodies names places n (drop (i + 1) bodies)) (sym (nexts ∙ add-one function))

-- and those of the next object of static storage
pub statics_more : (names : NamesBy) (none i : ℕ) (entities : List Entity) (objects : List StaticObject) (object : StaticObject) → i < length objects → object ≡ get_or objects i object →
    steps_of_statics names none entities (drop i objects) ≡ steps_of_static names none object (slice_get entities object.entity) ++ steps_of_statics names none entities (drop (i + 1) objects)
statics_more names none i entities objects object inside is = ap (steps_of_statics names none entities) (from_index objects i object inside is)

-- initialisers of static storage have the numbers of no body
module _ (names other : NamesBy) (same : names [] ≡ other []) (none : ℕ) (entities : List Entity) where
  static_same : (object : StaticObject) (found : Option Entity) → steps_of_static names none object found ≡ steps_of_static other none object found
  static_same object None = refl
  static_same object (Some entity) =
      ap (λ (n : Names). all_standing none (static_walk n (declared_node object entity) (n.object (storage.Entity object.entity)) object.parts)) same

  pub statics_same : (objects : List StaticObject) → steps_of_statics names none entities objects ≡ steps_of_statics other none entities objects
  statics_same [] = refl
  statics_same (object ∷ objects) =
      ap (λ xs. xs ++ steps_of_statics names none entities objects) (static_same object (slice_get entities object.entity)) ∙
      ap (λ xs. steps_of_static other none object (slice_get entities object.entity) ++ xs) (statics_same objects)

abbrev pub with_these : SourceNames → List LocalNames → SourceNames
with_these source locals = record {
  bases = source.bases;
  by_node = source.by_node;
  types = source.types;
  pointers = source.pointers;
  objects = source.objects;
  functions = source.functions;
  defined = source.defined;
  locals = locals;
}

-- all steps, behind none
pub all_added : (table : Table) (source : SourceNames) (locals : List LocalNames) (none : ℕ) (entities : List Entity) (objects : List StaticObject) (start statics all bodies : List StandingStep) →
    locals ≡ [] → start ≡ [] → statics ≡ start ++ steps_of_statics (λ _. names_of table (with_these source locals)) none entities objects → all ≡ statics ++ bodies →
    all ≡ steps_of_statics (names_by_locals table source) none entities objects ++ bodies
all_added table source locals none entities objects start statics all bodies empty starts staticss alls =
    alls ∙ ap (λ xs. xs ++ bodies) (staticss ∙ ap (λ xs. xs ++ steps_of_statics (λ _. names_of table (with_these source locals)) none entities objects) starts ∙
    statics_same (λ _. names_of table (with_these source locals)) (names_by_locals table source) (ap (λ ls. names_of table (with_these source ls)) empty) none entities objects)
