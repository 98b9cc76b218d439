-- The types of sources have their numbers in the program.
use Rattle.std.proofs.Common.{◌≡◌, ◌<◌, ℕ, All, List, Some, length, subst}
use Rattle.std.specs.List.{slice_get}
use Rattle.lk_link.specs.Sources.{AreSources, IsSource, Units}
use Rattle.lk_typed.specs.declared.entity.Entity.{Entity}
use Rattle.lk_typed.specs.declared.unit.TypedUnit.{TypedUnit}
use Rattle.lk_types.proofs.SizeLemmas.{all_read}
use Rattle.lk_types.specs.Table.{Table}
use Rattle.lk_join.specs.Entities.{HaveNumbers}
use Rattle.lk_join.specs.Forms.{AreRowsOf, IsPutAt}
use Rattle.lk_join.proofs.Zips.{zip_long}

-- each type that is put has one
pub rows_have_numbers : (units : Units) (structs : List (List ℕ)) (table : Table) (rows : List (List ℕ)) (count : ℕ) → AreRowsOf units structs table rows count → HaveNumbers units rows
rows_have_numbers units structs table rows count are s unit row at row_at =
    let put = are.each s unit row at row_at in
    zip_long (IsPutAt table row put.0) unit.types.types row put.2

-- so has the type of each entity
pub entities_have_numbers : (units : Units) (types : List (List ℕ)) → AreSources units → HaveNumbers units types → (s : ℕ) (unit : TypedUnit) (row : List ℕ) →
    slice_get units s ≡ Some unit → slice_get types s ≡ Some row → All (λ entity. entity.ty < length row) unit.entities
entities_have_numbers units types sources numbers s unit row at row_at =
    subst (λ n. All (λ (entity : Entity). entity.ty < n) unit.entities) (numbers s unit row at row_at) (all_read IsSource units s unit sources at).typed
