-- How a name is used, and the names whose use is refused.
use Rattle.std.specs.Prelude.{◌≡◌, true, false, Option, Some, None}
use Rattle.lk_base.specs.declared.code.Code.{Code}
use Rattle.lk_base.specs.declared.code.Code.TheVariants.{Undeclared}
use Rattle.lk_types.specs.Table.{Table}
use Rattle.lk_typed.specs.Env.{Env, Name as Bytes, is_one_of}
use Rattle.lk_typed.specs.Names.{role_in}
use Rattle.lk_typed.specs.Words.{RefusedName}
use Rattle.lk_typed.specs.declared.verdict.Verdict.{Verdict}
use Rattle.lk_typed.specs.declared.verdict.Verdict.TheVariants.{Broken, Silent}
use Rattle.lk_check_expr.specs.declared.words.NameUse.{NameUse}
use Rattle.lk_check_expr.specs.declared.words.Refused.{Refused}
use Rattle.lk_check_expr.specs.declared.words.Refused.TheVariants.{Name, Beginning}

-- what is said of the name in an environment
pub record IsUse (table : Table) (env : Env) (name : Bytes) (used : NameUse) : Type 0 where
  pub role : role_in table used.role ≡ env.role
  pub defined : is_one_of env.outside.defined name ≡ used.is_defined
  pub listed : is_one_of env.outside.externs name ≡ used.is_listed

abbrev pub refused_in : Refused → RefusedName
refused_in (Name word code) = record { word = word.now; is_beginning = false; code = code }
refused_in (Beginning word code) = record { word = word.now; is_beginning = true; code = code }

-- nothing is said of a name, unless it is refused
abbrev pub told_if_refused : Option Code → Verdict
told_if_refused None = Silent
told_if_refused (Some code) = Broken code

-- it is undeclared, unless it is refused
abbrev pub told_undeclared : Option Code → Verdict
told_undeclared None = Broken Undeclared
told_undeclared (Some code) = Broken code
