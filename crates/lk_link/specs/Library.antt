-- Names of the library's functions that are declared with other types.
use Rattle.std.specs.Prelude.{◌≡◌, ℕ, true, List, Some}
use Rattle.lk_base.specs.declared.code.Code.TheVariants.{TypesDiffer}
use Rattle.lk_link.specs.Sites.{clash_of}
use Rattle.lk_link.specs.Sources.{Units}
use Rattle.lk_link.specs.Structs.{types_in}
use Rattle.lk_link.specs.declared.clash.Clash.{Clash}
use Rattle.lk_link.specs.declared.sites.Site.{Site}
use Rattle.lk_typed.specs.Library.{LibraryFunction, library_function, type_of_function}
use Rattle.lk_typed.specs.Ty.{Ty, Means, is_redeclarable}
use Rattle.lk_types.specs.declared.c_type.CType.{CType}

-- the library has a function of the name, and this type of a table is another one (C99 7.1.3, 7.1.4)
pub record IsOtherInLibrary (types : List CType) (t : ℕ) (name : List ℕ) : Type 0 where
  pub function : LibraryFunction
  pub there : library_function name ≡ Some function
  pub differ : (type : Ty) → Means types t type → is_redeclarable type (type_of_function function) ≡ true → ⊥

abbrev pub IsOtherAt : Units → List ℕ → Site → Type 0
IsOtherAt units name site = IsOtherInLibrary (types_in units site.entity.source) site.ty name

abbrev pub IsOtherClashAt : Units → List ℕ → Site → Clash → Type 0
IsOtherClashAt units name site clash = IsOtherAt units name site × (clash ≡ clash_of site TypesDiffer name)
