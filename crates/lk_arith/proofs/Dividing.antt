-- Quotients and remainders of values.
use Rattle.std.proofs.Common.{ℕ, zero, suc, ◌≡◌, ◌≤◌, ◌%◌, ℤ, pos, negsuc, neg_ℤ, unsigned_abs, int_div, int_rem, FitsSigned, arith, refl, sym, ◌∙◌, to_z, of_z, IsTrue, IsFalse, Bool, true, false, Ok, Err, if◌then◌else◌}
use Rattle.std.specs.Int.{w128, cast_unsigned}
use Rattle.std.proofs.Math.Nat.{div-le_self, mod-le}
use Rattle.std.proofs.lemmas.Int.{fits_signed_from_abs, to_z-of_z}
use Rattle.lk_base.specs.declared.kind.Kind.{Kind}
use Rattle.lk_arith.specs.declared.operators.Undefined.{Undefined}
use Rattle.lk_arith.specs.declared.operators.Undefined.TheVariants.{Overflow, DivideByZero}
use Rattle.lk_arith.specs.Kinds.{is_value, IsValue}
use Rattle.lk_arith.specs.Conversions.{is_zero}
use Rattle.lk_arith.specs.Operators.{Outcome, division}
use Rattle.lk_arith.proofs.Ranges.{value_abs, nearer_pos, nearer_neg, zero_value}

-- a quotient isn't farther from zero than what is divided
quotient_abs : (a b : ℤ) → unsigned_abs (int_div a b) ≤ unsigned_abs a
quotient_abs (pos a) (pos b) = grind (arith, div-le_self)
quotient_abs (pos a) (negsuc b) = grind (arith, div-le_self)
quotient_abs (negsuc a) (pos b) = grind (arith, div-le_self)
quotient_abs (negsuc a) (negsuc b) = grind (arith, div-le_self)

pub quotient_fits : (k : Kind) (a b : ℤ) → IsValue k a → FitsSigned w128 (int_div a b)
quotient_fits k a b h = fits_signed_from_abs w128 (int_div a b) (omega (arith, value_abs k a h, quotient_abs a b))

-- what a division comes to, by its two tests
pub divided : (k : Kind) (a b r : ℤ) → IsFalse (is_zero b) → IsTrue (is_value k (int_div a b)) → Ok r ≡ division k a b r
unfolding division
divided k a b r nonzero value = rw (nonzero, value)

pub overflown : (k : Kind) (a b r : ℤ) → IsFalse (is_zero b) → IsFalse (is_value k (int_div a b)) → Err Overflow ≡ division k a b r
unfolding division
overflown k a b r nonzero value = rw (nonzero, value)

pub divided_by_zero : (k : Kind) (a b r : ℤ) → IsTrue (is_zero b) → Err DivideByZero ≡ division k a b r
unfolding division
divided_by_zero k a b r none = rw none

-- the same, for any two tests
abbrev tested : Bool → Bool → ℤ → Outcome
tested z v r = if z then Err DivideByZero else if v then Ok r else Err Overflow

same_tests : (z v : Bool) (q r : ℤ) (e : Undefined) → tested z v q ≡ Err e → tested z v r ≡ Err e
same_tests true v q r e h = h
same_tests false true q r e h = grind (arith)
same_tests false false q r e h = h

passed : (z v : Bool) (q r : ℤ) → tested z v q ≡ Ok r → IsFalse z × IsTrue v
passed true v q r h = grind (arith)
passed false true q r h = (refl, refl)
passed false false q r h = grind (arith)

pub same_fault : (k : Kind) (a b q r : ℤ) (e : Undefined) → division k a b q ≡ Err e → Err e ≡ division k a b r
unfolding division
same_fault k a b q r e h = sym (same_tests (is_zero b) (is_value k (int_div a b)) q r e h)

pub has_quotient : (k : Kind) (a b q r : ℤ) → division k a b q ≡ Ok r → IsFalse (is_zero b) × IsTrue (is_value k (int_div a b))
unfolding division
has_quotient k a b q r h = passed (is_zero b) (is_value k (int_div a b)) q r h

negated_value : (k : Kind) (n m : ℕ) → m ≤ suc n → IsValue k (negsuc n) → IsValue k (neg_ℤ (pos m))
negated_value k n zero le h = zero_value k
negated_value k n (suc m) le h = nearer_neg k n m (omega arith) h

pub remainder_value : (k : Kind) (a b : ℤ) → IsValue k a → IsValue k (int_rem a b)
remainder_value k (pos a) b h = nearer_pos k a (a % unsigned_abs b) (mod-le a (unsigned_abs b)) h
remainder_value k (negsuc a) b h = negated_value k a (suc a % unsigned_abs b) (mod-le (suc a) (unsigned_abs b)) h

-- what the code's comparison with zero says
pub is_nonzero : (b : ℤ) → ¬ (cast_unsigned w128 b ≡ 0) → IsFalse (is_zero b)
is_nonzero (pos zero) h = absurd (h refl)
is_nonzero (pos (suc n)) h = grind (arith)
is_nonzero (negsuc n) h = refl

-- what the code's quotient and remainder are
pub quotient_known : (a b q : ℤ) → FitsSigned w128 a → FitsSigned w128 b → FitsSigned w128 q → q ≡ int_div (to_z w128 (of_z w128 a)) (to_z w128 (of_z w128 b)) → to_z w128 (of_z w128 q) ≡ int_div a b
quotient_known a b q fa fb fq e = let exact = rw (to_z-of_z w128 a fa, to_z-of_z w128 b fb) at e in to_z-of_z w128 q fq ∙ exact

pub remainder_known : (a b r : ℤ) → FitsSigned w128 a → FitsSigned w128 b → FitsSigned w128 r → r ≡ int_rem (to_z w128 (of_z w128 a)) (to_z w128 (of_z w128 b)) → to_z w128 (of_z w128 r) ≡ int_rem a b
remainder_known a b r fa fb fr e = let exact = rw (to_z-of_z w128 a fa, to_z-of_z w128 b fb) at e in to_z-of_z w128 r fr ∙ exact
