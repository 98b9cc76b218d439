-- What the rows and lines of single rules come to.
use Rattle.std.proofs.Common.{◌≡◌, ◌∙◌, Bool, true, false, List, [], ◌∷◌, ℕ, Option, Some, None, refl, sym, ap, subst}
use Rattle.std.specs.Prelude.{if◌then◌else◌, ◌||◌, not, is_some}
use Rattle.std.proofs.lemmas.Bool.{false≢true}
use Rattle.lk_base.specs.declared.code.Code.{Code}
use Rattle.lk_base.specs.declared.code.Code.TheVariants.{MutexValue, Mismatch, NotAPlace}
use Rattle.lk_types.specs.Table.{Table}
use Rattle.lk_typed.specs.Assignments.{back_codes, or_behind}
use Rattle.lk_typed.specs.Codes as told
use Rattle.lk_typed.specs.Codes.{lesser, least_code, arm_code}
use Rattle.lk_typed.specs.Conversions.{conversion_codes}
use Rattle.lk_typed.specs.Meaning.{meaning_of}
use Rattle.lk_typed.specs.Operators.{arm_codes, if_taken}
use Rattle.lk_typed.specs.Places.{address_of, address_rule, is_addressable}
use Rattle.lk_typed.specs.Ty.{Ty, is_lock, is_function}
use Rattle.lk_typed.specs.Typing.{Typing, Address, unless, if_so, value_of_type}
use Rattle.lk_typed.specs.Typings.{typing, ForEach, IsResult, IsVerdict}
use Rattle.lk_typed.specs.declared.typed.ExprType.TheVariants.{PointerTo}
use Rattle.lk_typed.specs.declared.typed.Typed.{Typed}
use Rattle.lk_typed.specs.declared.verdict.Verdict.TheVariants as verdict
use Rattle.lk_typed.proofs.Verdicts.{then_each}

pub same_any : {r a b c d a' b' c' d' : Bool} → r ≡ (a || b || c || d) → a ≡ a' → b ≡ b' → c ≡ c' → d ≡ d' → r ≡ (a' || b' || c' || d')
same_any {r} {a} {b} {c} {d} {a'} {b'} {c'} {d'} is p q s t =
    is ∙ ap (λ x. x || b || c || d) p ∙ ap (λ x. a' || x || c || d) q ∙ ap (λ x. a' || b' || x || d) s ∙ ap (λ x. a' || b' || c' || x) t

-- ---- ?:

arms_by : (lock : Bool) → arm_code lock false ≡ least_code (if lock then MutexValue ∷ [] else Mismatch ∷ [])
arms_by true = refl
arms_by false = refl

pub arms_least : (a b : Typing) (x : Option Typing) → arm_code (is_lock a.type || is_lock b.type) (is_some x) ≡ least_code (arm_codes a b x)
arms_least a b None = arms_by (is_lock a.type || is_lock b.type)
arms_least a b (Some x) = refl

-- a line that takes the arms where another says so, of an equal type
pub line : (table : Table) (r : Option Typed) {taken taken' : Bool} {t t' : Ty} → taken ≡ taken' → t ≡ t' →
    IsResult table r (if_taken taken (value_of_type t)) → IsResult table r (if_taken taken' (value_of_type t'))
line table r {taken} {taken'} {t} {t'} p q h =
    subst (λ b. IsResult table r (if_taken b (value_of_type t'))) p (subst (λ a. IsResult table r (if_taken taken (value_of_type a))) q h)

-- ---- &

not_true : (b : Bool) → (b ≡ true → ⊥) → b ≡ false
not_true true never = absurd (never refl)
not_true false never = refl

refused : (table : Table) (taken : Bool) (x : Typing) → taken ≡ false → IsVerdict table (verdict.Broken NotAPlace) (unless (if_so (not taken) NotAPlace) x)
refused table true x e = absurd (false≢true (sym e))
refused table false x e = refl

-- a pointer that arises in an expression is no place
pub no_place : (table : Table) (e : Typed) (p : Address) (t : ℕ) → e.ty ≡ PointerTo t → (e.is_place ≡ true → ⊥) → IsVerdict table (verdict.Broken NotAPlace) (address_rule (typing table e p))
no_place table e p t is never =
    refused table (is_addressable (typing table e p)) (address_of (typing table e p))
    (ap (λ b. b || is_function (meaning_of table e.ty)) (not_true e.is_place never) ∙ ap (λ ty. is_function (meaning_of table ty)) is)

-- ---- assignments

-- what is computed converts back, where it is there
pub back_some : (table : Table) (target : Ty) (t : Typed) (x : Option Typing) {r : Option Code} → IsResult table (Some t) x →
    ForEach table t (λ y. r ≡ least_code (conversion_codes target y)) → r ≡ least_code (back_codes target x)
back_some table target t None h all = absurd h
back_some table target t (Some x) {r} h all = then_each table t x (λ y. r ≡ least_code (conversion_codes target y)) h all

pub back_none : (table : Table) (target : Ty) (x : Option Typing) → IsResult table None x → Some Mismatch ≡ least_code (back_codes target x)
back_none table target None h = refl
back_none table target (Some x) h = absurd h

behind_some : (c : Code) (o b : Option Code) → told.or_behind (lesser (Some c) o) b ≡ lesser (Some c) o
behind_some c None b = refl
behind_some c (Some d) b = refl

pub behind_least : (xs ys : List Code) → told.or_behind (least_code xs) (least_code ys) ≡ least_code (or_behind xs ys)
behind_least [] ys = refl
behind_least (c ∷ xs) ys = behind_some c (least_code xs) (least_code ys)
