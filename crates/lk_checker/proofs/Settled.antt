-- A parameter is settled behind its specifiers and its declarator: the codes at its name, those of its specifiers, and its own (C99 6.7.5.3).
use Rattle.std.proofs.Common.{◌≡◌, ◌∙◌, ◌++◌, ◌||◌, ℕ, Bool, true, false, List, Option, Some, None, IfSome, refl, sym, ap, subst}
use Rattle.std.specs.Prelude.{if◌then◌else◌, is_some}
use Rattle.std.specs.Option.{option_map}
use Rattle.lk_base.specs.declared.code.Code.{Code}
use Rattle.lk_base.specs.declared.code.Code.TheVariants.{LargeType}
use Rattle.lk_tree.specs.declared.expression.Parameter.{Parameter, out-Parameter}
use Rattle.lk_types.specs.Building.{IsLonger, IsPassed, IsTable}
use Rattle.lk_types.specs.Table.{Table}
use Rattle.lk_typed.specs.DeclaratorRules.{adjusted, parameter_rules}
use Rattle.lk_typed.specs.Env.{Env, extend}
use Rattle.lk_typed.specs.Faults.{breach}
use Rattle.lk_typed.specs.Layers.{has_name, parameter_name}
use Rattle.lk_typed.specs.Meaning.{meaning}
use Rattle.lk_typed.specs.NodeRules.{adjusted_rules, mark, parameter_node_rules}
use Rattle.lk_typed.specs.Told.{Named}
use Rattle.lk_typed.specs.Ty.{Ty, is_void}
use Rattle.lk_rules.proofs.Kept.{codes_are_kept_in_turn}
use Rattle.lk_rules.specs.Keeping.{KeepsCodes, keep}
use Rattle.lk_check_decl.specs.Breaches.{told}
use Rattle.lk_check_decl.specs.Making.{IsMade}
use Rattle.lk_found.proofs.Adjusting.{both_kept, made_code, made_passed, made_type, missing_type}
use Rattle.lk_found.specs.Named.{name_in}
use Rattle.lk_found.specs.Parameters.{name_of}
use Rattle.lk_found.specs.Shapes.{IsGrown}
use Rattle.lk_found.specs.Specified.{breaches_in}
use Rattle.lk_found.specs.Findings.{mark_at}
use Rattle.lk_found.specs.declared.declarators.DeclaredName.{DeclaredName}
use Rattle.lk_found.specs.declared.found.At.{At}
use Rattle.lk_found.specs.declared.gathered.Breach.{Breach}
use Rattle.lk_checker.proofs.GoingOn.{grows_further, is_further, puts_further, same_sound, then_further}
use Rattle.lk_checker.proofs.Shaping.{fields_are}
use Rattle.lk_checker.proofs.States.{grown_sound, same_in, stays_in}
use Rattle.lk_checker.proofs.Whole.{tells_same}
use Rattle.lk_checker.specs.Moves.{Puts, IsSame, KeepsAt, IsFurther}
use Rattle.lk_checker.specs.Parameters.{IsAdjusted, IsParameterDeclared, KeepsName, SettlesParameter}
use Rattle.lk_checker.specs.States.{IsIn, IsSound, Tells, kept_in, recorded_in}
use Rattle.lk_checker.specs.declared.checker.Checker.{Checker}

-- ---- the type, between what is kept

-- whether it is missing
pub missing_is : (broken : Option Code) (t : Ty) (a b m v : Bool) → m ≡ (a || b) → a ≡ is_some broken → b ≡ is_void t → m ≡ v → (is_some broken || is_void t) ≡ v
missing_is broken t a b m v is first second same = sym (is ∙ ap (λ a. a || b) first ∙ ap (λ b. is_some broken || b) second) ∙ same

module _ (old one two new : Checker) (at : At) (code large : Option Code) (sound : IsSound old) (first : Tells old one at (option_map breach code)) (table : IsTable two.types) (grown : IsGrown one.types two.types)
    (names : two.names ≡ one.names) (outside : two.outside ≡ one.outside) (same_kept : kept_in two ≡ kept_in one) (unrecorded : recorded_in two ≡ recorded_in one) (second : Tells two new at (option_map breach large)) where
  one_sound : IsSound one
  one_sound = same_sound old one (tells_same first) sound

  pub adjusted_puts : Puts old new
  adjusted_puts = record {
    longer = subst (λ t. IsLonger t new.types) first.types (rw second.types grown.longer);
    sound = same_sound two new (tells_same second) (grown_sound one two one_sound table grown names);
    outside = second.outside ∙ outside ∙ first.outside;
    names = second.names ∙ names ∙ first.names;
    records = second.records ∙ unrecorded ∙ first.records;
  }

  made_of_old : (t : ℕ) (made : Option ℕ) → IsMade one.types two.types (adjusted (meaning one.types t)) made → IsMade old.types two.types (adjusted (meaning old.types t)) made
  made_of_old t made makes = subst (λ (types : Table). IsMade types two.types (adjusted (meaning types t)) made) first.types makes

  keeps_both : (named void : Bool) (t : ℕ) (broken : Option Code) (made : Option ℕ) → broken ≡ told (parameter_rules named (Some (meaning old.types t))) → code ≡ (if void then None else broken) →
      large ≡ (if is_some made then None else Some LargeType) → IsMade one.types two.types (adjusted (meaning one.types t)) made → (env : Env) → IsIn old env →
      KeepsCodes (kept_in old) (mark_at at) (parameter_node_rules named void (Some (meaning old.types t)) ++ adjusted_rules env (Some (meaning old.types t))) (kept_in new)
  keeps_both named void t broken made is_broken is_code is_large makes env is =
      both_kept (kept_in old) (kept_in one) (kept_in new) (mark_at at) env named void (meaning old.types t) broken large is_broken
      (first.kept ∙ ap (λ code. keep (kept_in old) (mark_at at) (option_map breach code)) is_code)
      (made_code old.types two.types env (meaning old.types t) made large (fields_are old sound env is) (made_of_old t made makes) is_large)
      (second.kept ∙ ap (λ k. keep k (mark_at at) (option_map breach large)) same_kept)

  -- the type is missing
  pub none_adjusted : (named void : Bool) (t : ℕ) (broken : Option Code) (made : Option ℕ) → broken ≡ told (parameter_rules named (Some (meaning old.types t))) → code ≡ (if void then None else broken) →
      large ≡ (if is_some made then None else Some LargeType) → IsMade one.types two.types (adjusted (meaning one.types t)) made → (env : Env) → IsIn old env → (is_some broken || is_void (meaning old.types t)) ≡ true →
      IsAdjusted old new env (mark_at at) named void (Some (meaning old.types t)) None
  none_adjusted named void t broken made is_broken is_code is_large makes env is holds = record {
    type = λ name same. missing_type env name named (meaning old.types t) broken same is_broken holds;
    keeps = keeps_both named void t broken made is_broken is_code is_large makes env is;
  }

  -- or is the one that was made
  pub made_adjusted : (named void : Bool) (t : ℕ) (broken : Option Code) (made : Option ℕ) → broken ≡ told (parameter_rules named (Some (meaning old.types t))) → code ≡ (if void then None else broken) →
      large ≡ (if is_some made then None else Some LargeType) → IsMade one.types two.types (adjusted (meaning one.types t)) made → (env : Env) → IsIn old env → (is_some broken || is_void (meaning old.types t)) ≡ false →
      IsAdjusted old new env (mark_at at) named void (Some (meaning old.types t)) made
  made_adjusted named void t broken made is_broken is_code is_large makes env is holds = record {
    type = λ name same. ap (λ (types : Table). option_map (meaning types) made) second.types ∙
        made_type old.types two.types env name named (meaning old.types t) broken made same is_broken holds (fields_are old sound env is) (made_of_old t made makes);
    keeps = keeps_both named void t broken made is_broken is_code is_large makes env is;
  }

  pub adjusted_passed : (named void : Bool) (t : ℕ) (broken : Option Code) (made : Option ℕ) → broken ≡ told (parameter_rules named (Some (meaning old.types t))) → code ≡ (if void then None else broken) →
      large ≡ (if is_some made then None else Some LargeType) → IsMade one.types two.types (adjusted (meaning one.types t)) made → (is_some broken || is_void (meaning old.types t)) ≡ false → IfSome made (IsPassed new.types)
  adjusted_passed named void t broken made is_broken is_code is_large makes holds =
      subst (λ (types : Table). IfSome made (IsPassed types)) (sym second.types)
      (made_passed old.types two.types table named (meaning old.types t) broken (is_void (meaning old.types t)) made is_broken holds (made_of_old t made makes))

-- ---- behind its specifiers and its declarator

some_name : (o : Option DeclaredName) → is_some o ≡ has_name (option_map name_in o)
some_name None = refl
some_name (Some found) = refl

pub is_named_by : (o : Option DeclaredName) (named : Bool) (name : Option Named) → named ≡ is_some o → option_map name_in o ≡ name → named ≡ has_name name
is_named_by o named name is same = is ∙ some_name o ∙ ap has_name same

module _ (old one two three new : Checker) (sound : IsSound old) (first : IsSame old one) (second : IsSame one two) (puts : Puts two three) where
  both_same : IsSame old two
  both_same = record { types = second.types ∙ first.types; names = second.names ∙ first.names; outside = second.outside ∙ first.outside; records = second.records ∙ first.records }

  pub settled_further : (t : Option Ty) (name : Option Named) → IsParameterDeclared three new t name → new.names.structs ≡ three.names.structs → IsFurther old new
  settled_further t name declared structs =
      then_further old two new (is_further old two both_same sound) (then_further two three new (puts_further two three puts) (grows_further three new declared.grows structs))

  pub settled : (p : Parameter) (breaches : List Breach) (void named : Bool) (t ty : Option ℕ) → let d = (out-Parameter p).declarator in let m = mark (out-Parameter p).spot (out-Parameter p).ordinal in
      ((env : Env) → IsIn old env → KeepsName old one env (option_map (meaning old.types) t) (name_of d)) → KeepsAt one two (record { spot = (out-Parameter p).spot; ordinal = (out-Parameter p).ordinal }) (breaches_in breaches) →
      named ≡ has_name (name_of d) → ((env : Env) → IsIn two env → IsAdjusted two three env m named void (option_map (meaning two.types) t) ty) →
      IsParameterDeclared three new (option_map (meaning three.types) ty) (name_of d) → new.types ≡ three.types → SettlesParameter old new p breaches void (option_map (meaning old.types) t) ty
  settled p breaches void named t ty names codes is adjusts declared same env inside =
      let name = name_of (out-Parameter p).declarator in
      let m = mark (out-Parameter p).spot (out-Parameter p).ordinal in
      let written = option_map (meaning old.types) t in
      let in_two = same_in old two both_same.types both_same.names both_same.outside env inside in
      let a : IsAdjusted two three env m named void written ty = subst (λ (table : Table). IsAdjusted two three env m named void (option_map (meaning table) t) ty) both_same.types (adjusts env in_two) in
      let in_three = stays_in two three (is_further old two both_same sound).sound puts.longer puts.names puts.outside env in_two in
      let type = a.type name is in
      record {
        middle = kept_in one;
        name = names env inside;
        rules = subst (KeepsCodes (kept_in one) m (breaches_in breaches ++ (parameter_node_rules (has_name name) void written ++ adjusted_rules env written))) (sym declared.grows.kept)
            (codes_are_kept_in_turn (kept_in one) (kept_in two) (kept_in three) m (breaches_in breaches) (parameter_node_rules (has_name name) void written ++ adjusted_rules env written) codes
            (subst (λ n. KeepsCodes (kept_in two) m (parameter_node_rules n void written ++ adjusted_rules env written) (kept_in three)) is a.keeps));
        type = ap (λ (table : Table). option_map (meaning table) ty) same ∙ type;
        records = declared.grows.records ∙ puts.records ∙ both_same.records;
        behind = subst (λ t. IsIn new (extend env (parameter_name name t))) type (declared.goes_on env in_three);
      }
