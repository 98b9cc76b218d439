-- The uses of tags and what is told of a use, in the words of the rules.
use Rattle.std.specs.Prelude.{Option, Some, None, List, [], ◌∷◌}
use Rattle.lk_base.specs.declared.code.Code.{Code}
use Rattle.lk_typed.specs.Env.{Name}
use Rattle.lk_typed.specs.Faults.{Breach, breach_of}
use Rattle.lk_typed.specs.Redeclared as spec
use Rattle.lk_names.specs.declared.tags.TagUse.{TagUse}
use Rattle.lk_names.specs.declared.tags.TagUse.TheVariants as use_of

-- the rules' word for a use of a tag
abbrev pub rules_use : TagUse → spec.TagUse
rules_use use_of.DefinesStruct = spec.DefinesStruct
rules_use use_of.DefinesEnum = spec.DefinesEnum
rules_use use_of.NamesStruct = spec.NamesStruct
rules_use use_of.NamesEnum = spec.NamesEnum
rules_use use_of.DeclaresStruct = spec.DeclaresStruct

-- the breach that a code tells of a name, where there is one
abbrev pub breaches_told : Option Code → Name → List Breach
breaches_told None name = []
breaches_told (Some code) name = breach_of code name ∷ []
