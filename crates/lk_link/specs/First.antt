-- The clashes of all kinds, kind by kind.
use Rattle.std.specs.Prelude.{◌↔◌, ◌⊎◌, ℕ, List}
use Rattle.std.specs.List.{Contains}
use Rattle.lk_link.specs.Clashes.{IsDefinedTwice, DiffersFrom, DiffersFromLibrary, IsMissing, IsMissingInside}
use Rattle.lk_link.specs.Sources.{Units}
use Rattle.lk_link.specs.declared.clash.Clash.{Clash}

-- a list has all such clashes, and no others
abbrev pub AreAll : (Clash → Type 0) → List Clash → Type 0
AreAll Is clashes = (clash : Clash) → Contains clashes clash ↔ Is clash

abbrev pub IsOfNames : Units → Clash → Type 0
IsOfNames units clash = IsDefinedTwice units clash ⊎ DiffersFromLibrary units clash

abbrev pub IsOfDeclarations : Units → Clash → Type 0
IsOfDeclarations units clash = IsOfNames units clash ⊎ DiffersFrom units clash

abbrev pub IsUndefined : Units → (externs : List (List ℕ)) → Clash → Type 0
IsUndefined units externs clash = IsMissing units externs clash ⊎ IsMissingInside units clash
