-- What specifiers name together, and their code.
use Rattle.std.proofs.Common.{◌≡◌, ◌∙◌, ℕ, Bool, true, false, Option, Some, None, refl, sym, ap, IfSome}
use Rattle.std.specs.Prelude.{is_some, unwrap_or, if◌then◌else◌, ◌||◌}
use Rattle.std.specs.Borrow.{Bor}
use Rattle.std.specs.Option.{option_copied, option_map}
use Rattle.std.proofs.lemmas.Bool.{false≢true}
use Rattle.lk_base.specs.declared.code.Code.{Code}
use Rattle.lk_types.specs.Table.{Table, IsKnown}
use Rattle.lk_typed.specs.DeclaratorRules.{unless}
use Rattle.lk_typed.specs.Env.{Env, Name, Tag}
use Rattle.lk_typed.specs.HolderRules.{enum_rules}
use Rattle.lk_typed.specs.Redeclared.{NamesEnum, tag_rules}
use Rattle.lk_typed.specs.Meaning.{meaning}
use Rattle.lk_typed.specs.Told.{unless_broken, with_optional}
use Rattle.lk_typed.specs.Ty.{Ty}
use Rattle.lk_check_decl.specs.Breaches.{told}
use Rattle.lk_found.specs.Specified.{IsNamed, coded}

pub coded_told : (holds : Bool) (code : Code) (found : Option Code) → found ≡ told (unless holds code) → coded found ≡ unless holds code
coded_told true code found is = ap coded is
coded_told false code found is = ap coded is

-- whether a type is named, and which
pub is_named : (table : Table) (found : Option (Option ℕ)) (named : Option (Option Ty)) → IsNamed table found named → is_some named ≡ is_some found
is_named table None named is = ap is_some (sym is.0)
is_named table (Some t) named is = ap is_some (sym is.0)

pub type_named : (table : Table) (found : Option (Option ℕ)) (named : Option (Option Ty)) → IsNamed table found named →
    option_map (meaning table) (unwrap_or found None) ≡ with_optional None (λ t. t) named
type_named table None named is = ap (with_optional None (λ t. t)) is.0
type_named table (Some t) named is = ap (with_optional None (λ t. t)) is.0

pub known_named : (table : Table) (found : Option (Option ℕ)) (named : Option (Option Ty)) → IsNamed table found named → IfSome (unwrap_or found None) (IsKnown table)
known_named table None named is = tt
known_named table (Some t) named is = is.1

pub type_unless_broken : (holds : Bool) (code : Code) (found : Option Code) → found ≡ told (unless holds code) → (table : Table) (t : Option ℕ) (type : Option Ty) →
    option_map (meaning table) t ≡ type → option_map (meaning table) (if is_some found then None else t) ≡ unless_broken (unless holds code) type
type_unless_broken true code found is table t type same =
    ap (λ (o : Option Code). option_map (meaning table) (if is_some o then None else t)) is ∙ same
type_unless_broken false code found is table t type same = ap (λ (o : Option Code). option_map (meaning table) (if is_some o then None else t)) is

pub known_unless : (b : Bool) (table : Table) (t : Option ℕ) → IfSome t (IsKnown table) → IfSome (if b then None else t) (IsKnown table)
known_unless true table t known = tt
known_unless false table t known = known

-- ---- tags

pub is_copied : {A B : Type 0} (f : A → B) (o : Option (Bor A)) → is_some (option_map f (option_copied o)) ≡ is_some o
is_copied f None = refl
is_copied f (Some a) = refl

pub enum_found : (env : Env) (name : Name) (found : Option Tag) → is_some found ≡ true → enum_rules env name found ≡ tag_rules env NamesEnum name
enum_found env name None is = absurd (false≢true is)
enum_found env name (Some tag) is = refl

pub or_false : (a : Bool) → (a || false) ≡ a
or_false true = refl
or_false false = refl
