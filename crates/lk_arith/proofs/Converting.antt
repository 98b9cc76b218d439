-- A value converted to its own kind.
use Rattle.std.proofs.Common.{◌≡◌, ℤ, pos, negsuc, arith}
use Rattle.std.proofs.Math.Nat.{mod-eq_of_lt}
use Rattle.lk_base.specs.declared.kind.Kind.{Kind}
use Rattle.lk_base.specs.declared.kind.Kind.TheVariants as kind
use Rattle.lk_arith.specs.Kinds.{IsValue}
use Rattle.lk_arith.specs.Conversions.{convert}

-- C99 6.3.1.3, 1: what the kind has is unchanged
pub convert_same : (k : Kind) (a : ℤ) → IsValue k a → convert k a ≡ a
unfolding convert
convert_same kind.Bool (pos n) h = grind (arith)
convert_same kind.Bool (negsuc n) h = grind (arith)
convert_same kind.Char (pos n) h = grind (arith, mod-eq_of_lt)
convert_same kind.Char (negsuc n) h = grind (arith, mod-eq_of_lt)
convert_same kind.SChar (pos n) h = grind (arith, mod-eq_of_lt)
convert_same kind.SChar (negsuc n) h = grind (arith, mod-eq_of_lt)
convert_same kind.UChar (pos n) h = grind (arith, mod-eq_of_lt)
convert_same kind.UChar (negsuc n) h = grind (arith, mod-eq_of_lt)
convert_same kind.Short (pos n) h = grind (arith, mod-eq_of_lt)
convert_same kind.Short (negsuc n) h = grind (arith, mod-eq_of_lt)
convert_same kind.UShort (pos n) h = grind (arith, mod-eq_of_lt)
convert_same kind.UShort (negsuc n) h = grind (arith, mod-eq_of_lt)
convert_same kind.Int (pos n) h = grind (arith, mod-eq_of_lt)
convert_same kind.Int (negsuc n) h = grind (arith, mod-eq_of_lt)
convert_same kind.UInt (pos n) h = grind (arith, mod-eq_of_lt)
convert_same kind.UInt (negsuc n) h = grind (arith, mod-eq_of_lt)
convert_same kind.Long (pos n) h = grind (arith, mod-eq_of_lt)
convert_same kind.Long (negsuc n) h = grind (arith, mod-eq_of_lt)
convert_same kind.ULong (pos n) h = grind (arith, mod-eq_of_lt)
convert_same kind.ULong (negsuc n) h = grind (arith, mod-eq_of_lt)
convert_same kind.LLong (pos n) h = grind (arith, mod-eq_of_lt)
convert_same kind.LLong (negsuc n) h = grind (arith, mod-eq_of_lt)
convert_same kind.ULLong (pos n) h = grind (arith, mod-eq_of_lt)
convert_same kind.ULLong (negsuc n) h = grind (arith, mod-eq_of_lt)
