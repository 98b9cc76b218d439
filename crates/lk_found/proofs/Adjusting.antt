-- The type of a parameter is adjusted and asked (C99 6.7.5.3, 7 and 8), and its name is.
use Rattle.std.proofs.Common.{◌≡◌, ◌∙◌, ◌++◌, ◌||◌, ℕ, Bool, true, false, not, [], ◌∷◌, Option, Some, None, IfSome, refl, sym, ap, subst}
use Rattle.std.specs.Prelude.{if◌then◌else◌, is_some}
use Rattle.std.specs.Option.{option_map}
use Rattle.std.proofs.lemmas.Bool.{false≢true}
use Rattle.std.proofs.lemmas.Option.{none-some}
use Rattle.lk_base.specs.declared.code.Code.{Code}
use Rattle.lk_base.specs.declared.code.Code.TheVariants.{Incomplete, LargeType, MutexValue, OwnVararg, StructValue}
use Rattle.lk_types.specs.Building.{IsPassed, IsTable}
use Rattle.lk_types.specs.Table.{Table}
use Rattle.lk_typed.specs.Bounds.{holds_struct}
use Rattle.lk_typed.specs.DeclaratorRules.{adjusted, has_dots, of_type, parameter_rules, unless}
use Rattle.lk_typed.specs.Env.{Env}
use Rattle.lk_typed.specs.Faults.{breach}
use Rattle.lk_typed.specs.Layers.{has_name, parameter_type}
use Rattle.lk_typed.specs.Meaning.{meaning}
use Rattle.lk_typed.specs.MemberRules.{fields_in, is_over, within_bounds}
use Rattle.lk_typed.specs.NodeRules.{adjusted_rules, parameter_meaning, parameter_node_rules, plain_name, void_rules}
use Rattle.lk_typed.specs.Nodes.{IsParameter}
use Rattle.lk_typed.specs.Redeclared.{name_rules}
use Rattle.lk_typed.specs.Stands.{Mark}
use Rattle.lk_typed.specs.Told.{Named, unless_broken}
use Rattle.lk_typed.specs.Ty.{Ty, Void, Int, ThreadId, Mutex, Cond, Pointer, Array, Struct, Function, Opaque, is_lock, is_struct, is_void}
use Rattle.lk_rules.proofs.Kept.{codes_are_kept_in_turn}
use Rattle.lk_rules.specs.Keeping.{Kept, KeepsCodes, keep}
use Rattle.lk_check_decl.proofs.Sizes.{holds_is}
use Rattle.lk_check_decl.specs.Breaches.{told}
use Rattle.lk_check_decl.specs.Making.{AreFields, IsMade}
use Rattle.lk_found.proofs.Forming.{none_code, some_code}
use Rattle.lk_found.proofs.Keepings.{kept_told, unnamed_both, unnamed_none, unnamed_two, unnamed_unless}
use Rattle.lk_found.specs.Declarators.{name_codes}
use Rattle.lk_found.specs.Keepings.{AreUnnamed, KeepsEach}

-- ---- no rule of a parameter tells a name

unnamed_rules : (named : Bool) (t : Option Ty) → AreUnnamed (parameter_rules named t)
unnamed_rules named None = unnamed_none
unnamed_rules named (Some t) =
    let a = unless (not (has_dots t)) OwnVararg in
    let b = unless (not (is_struct t)) StructValue in
    let c = unless (not (is_lock t)) MutexValue in
    let d = unless (named || not (is_void t)) Incomplete in
    unnamed_both ((a ++ b) ++ c) d (unnamed_both (a ++ b) c (unnamed_two (not (has_dots t)) OwnVararg (not (is_struct t)) StructValue) (unnamed_unless (not (is_lock t)) MutexValue))
    (unnamed_unless (named || not (is_void t)) Incomplete)

unnamed_node : (named void : Bool) (t : Option Ty) → AreUnnamed (parameter_node_rules named void t)
unnamed_node named true t = unnamed_none
unnamed_node named false t = unnamed_rules named t

unnamed_void : (t : Option Ty) → AreUnnamed (of_type t void_rules)
unnamed_void None = unnamed_none
unnamed_void (Some t) = of (is_void t)
  where
    of : (b : Bool) → AreUnnamed (if b then breach Incomplete ∷ [] else [])
    of true = unnamed_unless false Incomplete
    of false = unnamed_none

-- ---- codes

node_code : (named void : Bool) (t : Option Ty) (code : Option Code) → code ≡ told (parameter_rules named t) → (if void then None else code) ≡ told (parameter_node_rules named void t)
node_code named true t code is = refl
node_code named false t code is = is

-- 32, of a type that was made or not
large_code : (old new : Table) (env : Env) (t : Ty) (made : Option ℕ) → AreFields old (fields_in env) → IsMade old new (adjusted t) made →
    (if is_some made then None else Some LargeType) ≡ told (adjusted_rules env (Some t))
large_code old new env t None fields is = ap (λ b. told (unless (not b) LargeType)) (sym (is (fields_in env) fields))
large_code old new env t (Some u) fields is = ap (λ b. told (unless (not b) LargeType)) (sym (is.small (fields_in env) fields))

-- both are kept
pub both_kept : (old middle new : Kept) (m : Mark) (env : Env) (named void : Bool) (t : Ty) (broken large : Option Code) → broken ≡ told (parameter_rules named (Some t)) →
    middle ≡ keep old m (option_map breach (if void then None else broken)) → large ≡ told (adjusted_rules env (Some t)) → new ≡ keep middle m (option_map breach large) →
    KeepsCodes old m (parameter_node_rules named void (Some t) ++ adjusted_rules env (Some t)) new
both_kept old middle new m env named void t broken large is first over second =
    codes_are_kept_in_turn old middle new m (parameter_node_rules named void (Some t)) (adjusted_rules env (Some t))
    (subst (KeepsCodes old m (parameter_node_rules named void (Some t))) (sym first)
    (kept_told old m (if void then None else broken) (parameter_node_rules named void (Some t)) (node_code named void (Some t) broken is) (unnamed_node named void (Some t))))
    (subst (KeepsCodes middle m (adjusted_rules env (Some t))) (sym second) (kept_told middle m large (adjusted_rules env (Some t)) over (unnamed_unless (not (is_over env (Some (adjusted t)))) LargeType)))

pub none_both : (kept : Kept) (m : Mark) (env : Env) (named void : Bool) → KeepsCodes kept m (parameter_node_rules named void None ++ adjusted_rules env None) kept
none_both kept m env named true = kept_told kept m None [] refl unnamed_none
none_both kept m env named false = kept_told kept m None [] refl unnamed_none

pub made_code : (old new : Table) (env : Env) (t : Ty) (made : Option ℕ) (code : Option Code) → AreFields old (fields_in env) → IsMade old new (adjusted t) made → code ≡ (if is_some made then None else Some LargeType) →
    code ≡ told (adjusted_rules env (Some t))
made_code old new env t made code fields is same = same ∙ large_code old new env t made fields is

-- ---- the type

-- it is missing where a rule is broken, and of void
pub missing_type : (env : Env) (name : Option Named) (named : Bool) (t : Ty) (broken : Option Code) → named ≡ has_name name → broken ≡ told (parameter_rules named (Some t)) → (is_some broken || is_void t) ≡ true →
    None ≡ parameter_type env name (Some t)
missing_type env name named t broken same is holds = of (is_void t) refl
  where
    or_false : (b : Bool) → (b || false) ≡ b
    or_false true = refl
    or_false false = refl

    of : (v : Bool) → is_void t ≡ v → None ≡ (if v then None else unless_broken (parameter_rules (has_name name) (Some t)) (within_bounds env (Some (adjusted t))))
    of true void = refl
    of false void = sym (ap (λ n. unless_broken (parameter_rules n (Some t)) (within_bounds env (Some (adjusted t)))) (sym same) ∙
        some_code (parameter_rules named (Some t)) broken is (sym (or_false (is_some broken)) ∙ ap (λ v. is_some broken || v) (sym void) ∙ holds) (within_bounds env (Some (adjusted t))))

made_means : (old new : Table) (env : Env) (t : Ty) (made : Option ℕ) → AreFields old (fields_in env) → IsMade old new t made → option_map (meaning new) made ≡ within_bounds env (Some t)
made_means old new env t None fields is = ap (λ b. if b then None else Some t) (sym (is (fields_in env) fields))
made_means old new env t (Some u) fields is = ap Some is.means ∙ ap (λ b. if b then None else Some t) (sym (is.small (fields_in env) fields))

no_some : (o : Option Code) (b : Bool) → (is_some o || b) ≡ false → is_some o ≡ false
no_some None b is = refl
no_some (Some c) b is = is

no_other : (a b : Bool) → (a || b) ≡ false → b ≡ false
no_other true b is = absurd (false≢true (sym is))
no_other false b is = is

pub made_type : (old new : Table) (env : Env) (name : Option Named) (named : Bool) (t : Ty) (broken : Option Code) (made : Option ℕ) → named ≡ has_name name → broken ≡ told (parameter_rules named (Some t)) →
    (is_some broken || is_void t) ≡ false → AreFields old (fields_in env) → IsMade old new (adjusted t) made → option_map (meaning new) made ≡ parameter_type env name (Some t)
made_type old new env name named t broken made same is holds fields h =
    let rest = within_bounds env (Some (adjusted t)) in
    made_means old new env (adjusted t) made fields h ∙
    sym (ap (λ v. if v then None else unless_broken (parameter_rules (has_name name) (Some t)) rest) (no_other (is_some broken) (is_void t) holds) ∙
    ap (λ n. unless_broken (parameter_rules n (Some t)) rest) (sym same) ∙ none_code (parameter_rules named (Some t)) broken is (no_some broken (is_void t) holds) rest)

-- where no rule is broken it holds no struct by value
no_struct : (named : Bool) (t : Ty) → told (parameter_rules named (Some t)) ≡ None → holds_struct (adjusted t) ≡ false
no_struct named Void is = refl
no_struct named (Int k) is = refl
no_struct named ThreadId is = refl
no_struct named Mutex is = refl
no_struct named Cond is = refl
no_struct named (Pointer t) is = refl
no_struct named (Array t n) is = refl
no_struct true (Struct s) is = absurd (none-some _ (sym is))
no_struct false (Struct s) is = absurd (none-some _ (sym is))
no_struct named (Function r ps dots) is = refl
no_struct named (Opaque n) is = refl

none_of : (o : Option Code) → is_some o ≡ false → o ≡ None
none_of None is = refl
none_of (Some c) is = absurd (false≢true (sym is))

pub made_passed : (old new : Table) → IsTable new → (named : Bool) (t : Ty) (broken : Option Code) (v : Bool) (made : Option ℕ) → broken ≡ told (parameter_rules named (Some t)) → (is_some broken || v) ≡ false →
    IsMade old new (adjusted t) made → IfSome made (IsPassed new)
made_passed old new good named t broken v None is holds h = tt
made_passed old new good named t broken v (Some u) is holds h = record {
  known = h.known;
  no_struct = sym (holds_is new good u h.known) ∙ ap holds_struct h.means ∙ no_struct named t (sym is ∙ none_of broken (no_some broken v holds));
}

-- ---- the name

-- 21 and 25 are kept at it
pub name_kept : (old middle new : Kept) (env : Env) (t : Option Ty) (named : Named) (m : Mark) (code : Option Code) → m ≡ record { spot = named.spot; ordinal = named.ordinal } →
    KeepsCodes old m (name_rules env (plain_name named.name (parameter_meaning t))) middle → code ≡ told (of_type t void_rules) → new ≡ keep middle m (option_map breach code) →
    KeepsEach old (name_codes env t IsParameter (Some named)) new
name_kept old middle new env t named m code place first is second = (
  new,
  subst (λ m. KeepsCodes old m (name_rules env (plain_name named.name (parameter_meaning t)) ++ of_type t void_rules) new) place
      (codes_are_kept_in_turn old middle new m (name_rules env (plain_name named.name (parameter_meaning t))) (of_type t void_rules) first
      (subst (KeepsCodes middle m (of_type t void_rules)) (sym second) (kept_told middle m code (of_type t void_rules) is (unnamed_void t)))),
  refl,
)
