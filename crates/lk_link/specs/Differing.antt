-- Declarations of one name whose types differ.
use Rattle.std.specs.Prelude.{◌≡◌, List, ℕ}
use Rattle.std.specs.List.{Any}
use Rattle.lk_base.specs.declared.code.Code.TheVariants.{TypesDiffer}
use Rattle.lk_link.specs.Sites.{clash_of}
use Rattle.lk_link.specs.Sources.{Units, ComesBefore}
use Rattle.lk_link.specs.Structs.{AreDeclaredAlike}
use Rattle.lk_link.specs.declared.clash.Clash.{Clash}
use Rattle.lk_link.specs.declared.place.TypeOf.{TypeOf}
use Rattle.lk_link.specs.declared.sites.Site.{Site}

abbrev pub type_at : Site → TypeOf
type_at site = record { source = site.entity.source; number = site.ty }

-- one declaration stands before the other, and has another type
abbrev pub DiffersAt : Units → Site → Site → Type 0
DiffersAt units other site =
    ComesBefore other.entity.source other.ordinal site.entity.source site.ordinal
    × (AreDeclaredAlike units (type_at other) (type_at site) → ⊥)

abbrev pub IsDifferent : Units → List Site → Site → Type 0
IsDifferent units group site = Any (λ other. DiffersAt units other site) group

abbrev pub IsDifferentAt : Units → List ℕ → List Site → Site → Clash → Type 0
IsDifferentAt units name group site clash =
    IsDifferent units group site × (clash ≡ clash_of site TypesDiffer name)
