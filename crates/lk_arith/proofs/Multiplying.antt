-- Products of values and factors.
use Rattle.std.proofs.Common.{◌≡◌, ◌*◌, ◌^◌, ℤ, pos, ◌*ℤ◌, unsigned_abs, FitsSigned, arith, ap, IsTrue, IsFalse, Ok}
use Rattle.std.specs.Int.{w128}
use Rattle.std.proofs.lemmas.Int.{fits_signed_mul}
use Rattle.lk_base.specs.declared.kind.Kind.{Kind}
use Rattle.lk_arith.specs.Kinds.{is_signed, IsValue}
use Rattle.lk_arith.specs.Conversions.{convert}
use Rattle.lk_arith.specs.Operators.{result_at}
use Rattle.lk_arith.specs.Steps.{is_factor}
use Rattle.lk_arith.proofs.Ranges.{factor_abs, signed_abs, factor_pos, value_pos}

pub product_fits : (k : Kind) (a b : ℤ) → IsTrue (is_signed k) → IsValue k a → IsTrue (is_factor k b) → FitsSigned w128 (a *ℤ b)
product_fits k a b s h f = fits_signed_mul w128 a b (2 ^ 63) (2 ^ 63) (signed_abs k a s h) (factor_abs k b s f) (omega arith)

product_pos : (k : Kind) (a b : ℤ) → IsFalse (is_signed k) → IsValue k a → IsTrue (is_factor k b) → pos (unsigned_abs a * unsigned_abs b) ≡ a *ℤ b
product_pos k a b s h f = rw (value_pos k a s h, factor_pos k b s f)

pub converted_product : (k : Kind) (a b : ℤ) → IsFalse (is_signed k) → IsValue k a → IsTrue (is_factor k b) → Ok (convert k (pos (unsigned_abs a * unsigned_abs b))) ≡ result_at k (a *ℤ b)
unfolding result_at
converted_product k a b s h f = rw s (ap (λ z. Ok (convert k z)) (product_pos k a b s h f))
