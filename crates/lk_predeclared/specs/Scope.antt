-- What is in scope where a source begins (POSIX, pthread.h; C99 7.19, 7.20).
use Rattle.std.specs.Prelude.{◌≡◌, ◌++◌, ◌∷◌, List, [], map}
use Rattle.lk_types.specs.Table.{Table}
use Rattle.lk_typed.specs.Env.{AFunction, Declared, Name, Meaning}
use Rattle.lk_typed.specs.Library as spec
use Rattle.lk_typed.specs.Library.{type_of_function}
use Rattle.lk_typed.specs.Names.{declared_in}
use Rattle.lk_typed.specs.declared.entity.Defines.{Defines}
use Rattle.lk_typed.specs.declared.entity.Defines.TheVariants as defines
use Rattle.lk_typed.specs.declared.entity.Linkage.{Linkage}
use Rattle.lk_typed.specs.declared.entity.Linkage.TheVariants as linkage
use Rattle.lk_typed.specs.declared.names.Declared.{Declared as CodeDeclared}
use Rattle.lk_typed.specs.declared.names.Meaning.{Meaning as CodeMeaning}
use Rattle.lk_names.specs.InScope.{InScope, IsKnownScope, nothing_in_scope}
use Rattle.lk_check_expr.specs.Functions.{rows_of, spelling}
use Rattle.lk_check_expr.specs.declared.library.LibraryFunction.{LibraryFunction}
use Rattle.lk_predeclared.specs.Functions.{type_by}

-- a name that no node declares
abbrev pub code_declared : Name → CodeMeaning → Linkage → Defines → CodeDeclared
code_declared name meaning reach defined =
    record { name = name; meaning = meaning; linkage = reach; defines = defined; ordinal = 0 }

abbrev pub declared : Name → Meaning → Linkage → Defines → Declared
declared name meaning reach defined =
    record { name = name; meaning = meaning; linkage = reach; defines = defined; ordinal = 0 }

-- a function of the library as it is declared
abbrev pub function_declared : LibraryFunction → Declared
function_declared function =
    declared (spelling function) (AFunction (type_by (rows_of function))) linkage.External defines.Whole

-- all of them
abbrev pub functions_declared : List Declared
functions_declared =
    map (λ f. declared f.name (AFunction (type_of_function f)) linkage.External defines.Whole) spec.library

-- the words, and behind them the functions
abbrev pub all_declared : List Declared
all_declared = spec.predeclared_types ++ functions_declared

-- exactly these names are in scope, in file scope, and neither tags nor structs
pub record HasScope (table : Table) (scope : InScope) (names : List Declared) : Type 0 where
  pub known : IsKnownScope table scope
  pub names_are : map (declared_in table) scope.declared ≡ names
  pub alone : record scope { declared = [] } ≡ nothing_in_scope

-- this name came last
abbrev pub AddsName : InScope → InScope → CodeDeclared → Type 0
AddsName old new d = new ≡ record old { declared = old.declared ++ d ∷ [] }

-- these names came last
abbrev pub AddsNames : Table → InScope → Table → InScope → List Declared → Type 0
AddsNames table scope later new more = (names : List Declared) → HasScope table scope names →
    HasScope later new (names ++ more)
