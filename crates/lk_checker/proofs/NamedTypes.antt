-- A specifier that names a type alone is gathered.
use Rattle.std.proofs.Common.{◌≡◌, ◌∙◌, ◌++◌, ℕ, Bool, true, false, List, [], ◌∷◌, Option, Some, None, refl, sym, ap, subst, IfSome}
use Rattle.std.specs.Prelude.{◌||◌, if◌then◌else◌, is_some}
use Rattle.std.specs.Option.{option_map}
use Rattle.std.proofs.lemmas.List.{append-nil}
use Rattle.lk_types.specs.Building.{IsTable, IsLonger}
use Rattle.lk_types.specs.Table.{Table, IsKnown}
use Rattle.lk_typed.proofs.Meanings.{meaning_stays}
use Rattle.lk_typed.specs.Env.{Env, Additions, Name, Tag, nothing, extend, look_up_tag}
use Rattle.lk_typed.specs.Faults.{Breach, breach_of}
use Rattle.lk_base.specs.declared.code.Code.TheVariants.{Redeclared}
use Rattle.lk_typed.specs.HolderRules.{enum_rules}
use Rattle.lk_typed.specs.Meaning.{meaning}
use Rattle.lk_typed.specs.Redeclared.{NamesEnum, TagUse, may_use, tag_meant}
use Rattle.lk_typed.specs.Told.{SpecifierTold, enum_named, meant, of_type_alone, struct_named, then_specifier, type_if_admitted, with_optional}
use Rattle.lk_typed.specs.Ty.{Ty, Struct, int}
use Rattle.lk_found.proofs.Shaping.{known_stays}
use Rattle.lk_found.proofs.Environments.{extend_nothing}
use Rattle.lk_found.specs.Specified.{AreOthers, IsGathered, optional_breach}
use Rattle.lk_found.specs.declared.gathered.Breach.{Breach as CodeBreach}
use Rattle.lk_found.specs.declared.gathered.Gathered.{Gathered}
use Rattle.lk_found.specs.declared.gathered.Others.{Others}
use Rattle.lk_found.specs.declared.gathered.Others.TheVariants as others
use Rattle.lk_checker.specs.Naming.{IsNamedType, IsSpecifierPut}
use Rattle.lk_checker.specs.States.{IsIn}
use Rattle.lk_checker.specs.declared.checker.Checker.{Checker}

module _ (old new : Table) (good : IsTable old) (longer : IsLonger old new) where
  pub type_stays : (t : Option ℕ) → IfSome t (IsKnown old) → option_map (meaning old) t ≡ option_map (meaning new) t
  type_stays None known = refl
  type_stays (Some t) known = ap Some (sym (meaning_stays old new good longer t known))

module _ (old new : Table) (good : IsTable old) (new_good : IsTable new) (longer : IsLonger old new) where
  known_type : (t : Option ℕ) → IfSome t (IsKnown old) → IfSome t (IsKnown new)
  known_type None known = tt
  known_type (Some t) known = known_stays old new good new_good longer t known

  others_stay : (o : Others) (types : List (Option Ty)) → AreOthers old o types → AreOthers new o types
  others_stay others.Nothing types are = are
  others_stay (others.One t) types are = (are.0 ∙ ap (λ x. x ∷ []) (type_stays old new good longer t are.1), known_type t are.1)
  others_stay others.Several types are = are

  -- while the table grows
  pub gathered_stays : (g : Gathered) (told : SpecifierTold) (broken : List Breach) → IsGathered old g told broken → IsGathered new g told broken
  gathered_stays g told broken is = record {
    storages = is.storages;
    words = is.words;
    types = others_stay g.others told.types is.types;
    holds_sizeof = is.holds_sizeof;
    breaches = is.breaches;
  }

or_none : (b : Bool) → (b || false) ≡ b
or_none true = refl
or_none false = refl

pub type_put : (table : Table) (g : Gathered) (before : SpecifierTold) (broken : List Breach) (more : Additions) (t : Option Ty) →
    IsGathered table g (record before { types = before.types ++ t ∷ [] }) broken → IsGathered table g (then_specifier before (of_type_alone more t)) broken
type_put table g before broken more t is = record {
  storages = is.storages ∙ sym (append-nil before.storages);
  words = is.words ∙ sym (append-nil before.words);
  types = is.types;
  holds_sizeof = is.holds_sizeof ∙ sym (or_none before.holds_sizeof);
  breaches = is.breaches;
}

-- a type that was put with its code
pub named_put : (old new : Checker) (env : Env) (before middle after : Gathered) (told : SpecifierTold) (breach : Option CodeBreach) (broken : List Breach) (t : Option ℕ) →
    IsTable old.types → IsTable new.types → IsLonger old.types new.types → IfSome t (IsKnown new.types) → optional_breach breach ≡ broken →
    ((table : Table) (told : SpecifierTold) (codes : List Breach) → IsGathered table before told codes → IsGathered table middle told (codes ++ optional_breach breach)) →
    ((table : Table) (told : SpecifierTold) (codes : List Breach) → IfSome t (IsKnown table) → IsGathered table middle told codes →
    IsGathered table after (record told { types = told.types ++ option_map (meaning table) t ∷ [] }) codes) →
    IsNamedType new env t told → IsSpecifierPut old new env before after told broken
named_put old new env before middle after told breach broken t good new_good longer known codes_are put_code put_type named = record {
  gathered = λ others codes is.
      let first = put_code new.types others codes (gathered_stays old.types new.types good new_good longer before others codes is) in
      let second = put_type new.types others (codes ++ optional_breach breach) known first in
      subst (λ told. IsGathered new.types after (then_specifier others told) (codes ++ broken)) (sym named.is)
      (subst (λ bs. IsGathered new.types after (then_specifier others (of_type_alone told.additions (option_map (meaning new.types) t))) (codes ++ bs)) codes_are
      (type_put new.types after others (codes ++ optional_breach breach) told.additions (option_map (meaning new.types) t) second));
  behind = named.behind;
}

-- ---- `struct tag`

pub struct_refused : (checker : Checker) (env : Env) (wanted : TagUse) (name : Name) → may_use env (tag_meant env wanted name) wanted ≡ false → IsIn checker env →
    IsNamedType checker env None (struct_named env wanted name)
struct_refused checker env wanted name refused is =
    subst (λ (told : SpecifierTold). IsNamedType checker env None told) (sym (by refused)) (record { is = refl; behind = subst (IsIn checker) (sym (extend_nothing env)) is })
  where
    by : may_use env (tag_meant env wanted name) wanted ≡ false → struct_named env wanted name ≡ of_type_alone nothing None
    by refused = ap (λ b. if b then of_type_alone (meant env (tag_meant env wanted name) (Some name)).additions (Some (Struct (meant env (tag_meant env wanted name) (Some name)).number)) else of_type_alone nothing None) refused

pub struct_admitted : (checker : Checker) (env : Env) (wanted : TagUse) (name : Name) → may_use env (tag_meant env wanted name) wanted ≡ true → (s t : ℕ) →
    s ≡ (meant env (tag_meant env wanted name) (Some name)).number → meaning checker.types t ≡ Struct s →
    IsIn checker (extend env (meant env (tag_meant env wanted name) (Some name)).additions) → IsNamedType checker env (Some t) (struct_named env wanted name)
struct_admitted checker env wanted name admitted s t number means is =
    subst (λ (told : SpecifierTold). IsNamedType checker env (Some t) told) (sym (by admitted))
    (record { is = ap (λ tree. of_type_alone (meant env (tag_meant env wanted name) (Some name)).additions (Some tree)) (ap Struct (sym number) ∙ sym means); behind = is })
  where
    by : may_use env (tag_meant env wanted name) wanted ≡ true →
        struct_named env wanted name ≡ of_type_alone (meant env (tag_meant env wanted name) (Some name)).additions (Some (Struct (meant env (tag_meant env wanted name) (Some name)).number))
    by admitted = ap (λ b. if b then of_type_alone (meant env (tag_meant env wanted name) (Some name)).additions (Some (Struct (meant env (tag_meant env wanted name) (Some name)).number)) else of_type_alone nothing None) admitted

-- ---- `enum tag`

abbrev is_there : {A : Type 0} → List A → Bool
is_there [] = false
is_there (x ∷ xs) = true

named_or_not : (may : Bool) (name : Name) → (if may then Some int else None) ≡ (if is_there (if may then [] else breach_of Redeclared name ∷ []) then None else Some int)
named_or_not true name = refl
named_or_not false name = refl

enum_by : (env : Env) (name : Name) (found : Option Tag) → look_up_tag env name ≡ found →
    with_optional None (λ tag. type_if_admitted env NamesEnum (Some tag) int) found ≡ (if is_there (enum_rules env name found) then None else Some int)
enum_by env name None same = refl
enum_by env name (Some tag) same =
    named_or_not (may_use env (Some tag) NamesEnum) name ∙
    ap (λ found. if is_there (if may_use env found NamesEnum then [] else breach_of Redeclared name ∷ []) then None else Some int) (sym same)

broken_there : (b : Option CodeBreach) → is_there (optional_breach b) ≡ is_some b
broken_there None = refl
broken_there (Some b) = refl

pub enum_is : (checker : Checker) (env : Env) (name : Name) (b : Option CodeBreach) (t : Option ℕ) → IsIn checker env → optional_breach b ≡ enum_rules env name (look_up_tag env name) →
    option_map (meaning checker.types) t ≡ (if is_some b then None else Some int) → IsNamedType checker env t (enum_named env name)
enum_is checker env name b t is are type = record {
  is = ap (of_type_alone nothing)
      (enum_by env name (look_up_tag env name) refl ∙ ap (λ bs. if is_there bs then None else Some int) (sym are) ∙ ap (λ broken. if broken then None else Some int) (broken_there b) ∙ sym type);
  behind = subst (IsIn checker) (sym (extend_nothing env)) is;
}

-- ---- a typedef name

pub typedef_put : (checker : Checker) (env : Env) (before after : Gathered) (t : Option ℕ) (type : Option Ty) → IsIn checker env → IfSome t (IsKnown checker.types) →
    option_map (meaning checker.types) t ≡ type →
    ((table : Table) (told : SpecifierTold) (codes : List Breach) → IfSome t (IsKnown table) → IsGathered table before told codes →
    IsGathered table after (record told { types = told.types ++ option_map (meaning table) t ∷ [] }) codes) →
    IsSpecifierPut checker checker env before after (of_type_alone nothing type) []
typedef_put checker env before after t type is known same put_type = record {
  gathered = λ others codes g.
      subst (λ type. IsGathered checker.types after (then_specifier others (of_type_alone nothing type)) (codes ++ [])) same
      (subst (λ bs. IsGathered checker.types after (then_specifier others (of_type_alone nothing (option_map (meaning checker.types) t))) bs) (sym (append-nil codes))
      (type_put checker.types after others codes nothing (option_map (meaning checker.types) t) (put_type checker.types others codes known g)));
  behind = subst (IsIn checker) (sym (extend_nothing env)) is;
}
