-- The least code of codes that are joined.
use Rattle.std.proofs.Common.{◌≡◌, ◌∙◌, ◌++◌, ℕ, Bool, true, false, List, [], ◌∷◌, Option, Some, None, refl, sym, ap, subst, arith, nat_lt}
use Rattle.std.specs.Prelude.{if◌then◌else◌, not}
use Rattle.lk_base.specs.declared.code.Code.{Code}
use Rattle.lk_base.specs.declared.code.Code.TheVariants.{IntPointerCast, PointerCast, StructValue, MutexValue, Mismatch}
use Rattle.lk_base.specs.Code.{number_of}
use Rattle.lk_typed.specs.Conversions.{conversion_codes, cast_codes}
use Rattle.lk_typed.specs.Ty.{Ty, is_lock, is_void}
use Rattle.lk_typed.specs.Typing.{Typing, if_so, or_at_least}
use Rattle.lk_typed.specs.Codes.{lesser, least_code, named_code, operand_code, code_unless}

abbrev least_of : ℕ → ℕ → Code → Code → Code
least_of m n a b = if nat_lt n m then b else a

lesser_twice : (number : Code → ℕ) (a b c : Code) →
    least_of (number a) (number (least_of (number b) (number c) b c)) a (least_of (number b) (number c) b c) ≡
    least_of (number (least_of (number a) (number b) a b)) (number c) (least_of (number a) (number b) a b) c
lesser_twice number a b c = grind arith

pub lesser_again : (a b c : Option Code) → lesser a (lesser b c) ≡ lesser (lesser a b) c
lesser_again None b c = refl
lesser_again (Some a) None c = refl
lesser_again (Some a) (Some b) None = refl
lesser_again (Some a) (Some b) (Some c) = ap Some (lesser_twice number_of a b c)

pub least_of_both : (xs ys : List Code) → least_code (xs ++ ys) ≡ lesser (least_code xs) (least_code ys)
least_of_both [] ys = refl
least_of_both (x ∷ xs) ys = ap (lesser (Some x)) (least_of_both xs ys) ∙ lesser_again (Some x) (least_code xs) (least_code ys)

-- of the codes that name a conversion the first that holds is the least
pub named_least : (a b c d : Bool) →
    least_code (or_at_least (if_so a IntPointerCast ++ if_so b PointerCast ++ if_so c StructValue ++ if_so d MutexValue) Mismatch) ≡ Some (named_code a b c d)
named_least true true true true = refl
named_least true true true false = refl
named_least true true false true = refl
named_least true true false false = refl
named_least true false true true = refl
named_least true false true false = refl
named_least true false false true = refl
named_least true false false false = refl
named_least false true true true = refl
named_least false true true false = refl
named_least false true false true = refl
named_least false true false false = refl
named_least false false true true = refl
named_least false false true false = refl
named_least false false false true = refl
named_least false false false false = refl

pub operand_least : (lock taken : Bool) → least_code (if lock then MutexValue ∷ [] else if_so (not taken) Mismatch) ≡ operand_code lock taken
operand_least true taken = refl
operand_least false true = refl
operand_least false false = refl

-- the same, of what the code computed
pub told_operand : {r : Option Code} {a b a' b' : Bool} → a ≡ a' → b ≡ b' → r ≡ operand_code a b → r ≡ least_code (if a' then MutexValue ∷ [] else if_so (not b') Mismatch)
told_operand {r} {a} {b} {a'} {b'} p q is = is ∙ ap (λ x. operand_code x b) p ∙ ap (operand_code a') q ∙ sym (operand_least a' b')

abbrev codes_named : Bool → Bool → Bool → Bool → List Code
codes_named a b c d = or_at_least (if_so a IntPointerCast ++ if_so b PointerCast ++ if_so c StructValue ++ if_so d MutexValue) Mismatch

unless_least : (e a b c d : Bool) → code_unless e (named_code a b c d) ≡ least_code (if e then [] else codes_named a b c d)
unless_least true a b c d = refl
unless_least false a b c d = sym (named_least a b c d)

pub told_conversion : {r : Option Code} {n : Code} {e a b c d e' a' b' c' d' : Bool} → e ≡ e' → a ≡ a' → b ≡ b' → c ≡ c' → d ≡ d' →
    n ≡ named_code a b c d → r ≡ code_unless e n → r ≡ least_code (if e' then [] else codes_named a' b' c' d')
told_conversion {r} {n} {e} {a} {b} {c} {d} {e'} {a'} {b'} {c'} {d'} p q s t u named is =
    is ∙ ap (code_unless e) named ∙ ap (λ x. code_unless x (named_code a b c d)) p ∙ ap (λ x. code_unless e' (named_code x b c d)) q ∙
    ap (λ x. code_unless e' (named_code a' x c d)) s ∙ ap (λ x. code_unless e' (named_code a' b' x d)) t ∙
    ap (λ x. code_unless e' (named_code a' b' c' x)) u ∙ unless_least e' a' b' c' d'

-- a cast to another type than void breaks what the conversion breaks
pub told_cast : (target : Ty) (x : Typing) → is_void target ≡ false → least_code (conversion_codes target x) ≡ least_code (cast_codes target x)
told_cast target x other =
    subst (λ void. least_code (conversion_codes target x) ≡ least_code (if void then if_so (is_lock x.type) MutexValue else conversion_codes target x)) (sym other) refl
