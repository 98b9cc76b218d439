-- How far from zero the values of the kinds are.
use Rattle.std.proofs.Common.{ℕ, ◌≡◌, ◌≤◌, ◌<◌, ◌^◌, ℤ, pos, negsuc, ◌-ℤ◌, unsigned_abs, FitsSigned, arith, refl, IsTrue, IsFalse}
use Rattle.std.specs.Int.{w128}
use Rattle.std.proofs.lemmas.Int.{ints}
use Rattle.lk_base.specs.declared.kind.Kind.{Kind}
use Rattle.lk_base.specs.declared.kind.Kind.TheVariants as kind
use Rattle.lk_arith.specs.Kinds.{is_signed, IsValue}
use Rattle.lk_arith.specs.Steps.{is_factor}

pub value_abs : (k : Kind) (a : ℤ) → IsValue k a → unsigned_abs a < 2 ^ 65
value_abs kind.Bool a h = grind (arith)
value_abs kind.Char a h = grind (arith)
value_abs kind.SChar a h = grind (arith)
value_abs kind.UChar a h = grind (arith)
value_abs kind.Short a h = grind (arith)
value_abs kind.UShort a h = grind (arith)
value_abs kind.Int a h = grind (arith)
value_abs kind.UInt a h = grind (arith)
value_abs kind.Long a h = grind (arith)
value_abs kind.ULong a h = grind (arith)
value_abs kind.LLong a h = grind (arith)
value_abs kind.ULLong a h = grind (arith)

-- a value or factor at a signed kind
pub factor_abs : (k : Kind) (b : ℤ) → IsTrue (is_signed k) → IsTrue (is_factor k b) → unsigned_abs b ≤ 2 ^ 63
factor_abs kind.Bool b s h = grind (arith)
factor_abs kind.Char b s h = grind (arith)
factor_abs kind.SChar b s h = grind (arith)
factor_abs kind.UChar b s h = grind (arith)
factor_abs kind.Short b s h = grind (arith)
factor_abs kind.UShort b s h = grind (arith)
factor_abs kind.Int b s h = grind (arith)
factor_abs kind.UInt b s h = grind (arith)
factor_abs kind.Long b s h = grind (arith)
factor_abs kind.ULong b s h = grind (arith)
factor_abs kind.LLong b s h = grind (arith)
factor_abs kind.ULLong b s h = grind (arith)

pub signed_abs : (k : Kind) (a : ℤ) → IsTrue (is_signed k) → IsValue k a → unsigned_abs a ≤ 2 ^ 63
signed_abs kind.Bool a s h = grind (arith)
signed_abs kind.Char a s h = grind (arith)
signed_abs kind.SChar a s h = grind (arith)
signed_abs kind.UChar a s h = grind (arith)
signed_abs kind.Short a s h = grind (arith)
signed_abs kind.UShort a s h = grind (arith)
signed_abs kind.Int a s h = grind (arith)
signed_abs kind.UInt a s h = grind (arith)
signed_abs kind.Long a s h = grind (arith)
signed_abs kind.ULong a s h = grind (arith)
signed_abs kind.LLong a s h = grind (arith)
signed_abs kind.ULLong a s h = grind (arith)

-- a value or factor at any other kind isn't negative
pub factor_pos : (k : Kind) (b : ℤ) → IsFalse (is_signed k) → IsTrue (is_factor k b) → b ≡ pos (unsigned_abs b)
factor_pos kind.Bool b s h = grind (arith)
factor_pos kind.Char b s h = grind (arith)
factor_pos kind.SChar b s h = grind (arith)
factor_pos kind.UChar b s h = grind (arith)
factor_pos kind.Short b s h = grind (arith)
factor_pos kind.UShort b s h = grind (arith)
factor_pos kind.Int b s h = grind (arith)
factor_pos kind.UInt b s h = grind (arith)
factor_pos kind.Long b s h = grind (arith)
factor_pos kind.ULong b s h = grind (arith)
factor_pos kind.LLong b s h = grind (arith)
factor_pos kind.ULLong b s h = grind (arith)

pub value_pos : (k : Kind) (a : ℤ) → IsFalse (is_signed k) → IsValue k a → a ≡ pos (unsigned_abs a)
value_pos kind.Bool a s h = grind (arith)
value_pos kind.Char a s h = grind (arith)
value_pos kind.SChar a s h = grind (arith)
value_pos kind.UChar a s h = grind (arith)
value_pos kind.Short a s h = grind (arith)
value_pos kind.UShort a s h = grind (arith)
value_pos kind.Int a s h = grind (arith)
value_pos kind.UInt a s h = grind (arith)
value_pos kind.Long a s h = grind (arith)
value_pos kind.ULong a s h = grind (arith)
value_pos kind.LLong a s h = grind (arith)
value_pos kind.ULLong a s h = grind (arith)

-- what lies between zero and a value is one
pub nearer_pos : (k : Kind) (n m : ℕ) → m ≤ n → IsValue k (pos n) → IsValue k (pos m)
nearer_pos kind.Bool n m le h = grind (arith)
nearer_pos kind.Char n m le h = grind (arith)
nearer_pos kind.SChar n m le h = grind (arith)
nearer_pos kind.UChar n m le h = grind (arith)
nearer_pos kind.Short n m le h = grind (arith)
nearer_pos kind.UShort n m le h = grind (arith)
nearer_pos kind.Int n m le h = grind (arith)
nearer_pos kind.UInt n m le h = grind (arith)
nearer_pos kind.Long n m le h = grind (arith)
nearer_pos kind.ULong n m le h = grind (arith)
nearer_pos kind.LLong n m le h = grind (arith)
nearer_pos kind.ULLong n m le h = grind (arith)

pub nearer_neg : (k : Kind) (n m : ℕ) → m ≤ n → IsValue k (negsuc n) → IsValue k (negsuc m)
nearer_neg kind.Bool n m le h = grind (arith)
nearer_neg kind.Char n m le h = grind (arith)
nearer_neg kind.SChar n m le h = grind (arith)
nearer_neg kind.UChar n m le h = grind (arith)
nearer_neg kind.Short n m le h = grind (arith)
nearer_neg kind.UShort n m le h = grind (arith)
nearer_neg kind.Int n m le h = grind (arith)
nearer_neg kind.UInt n m le h = grind (arith)
nearer_neg kind.Long n m le h = grind (arith)
nearer_neg kind.ULong n m le h = grind (arith)
nearer_neg kind.LLong n m le h = grind (arith)
nearer_neg kind.ULLong n m le h = grind (arith)

pub zero_value : (k : Kind) → IsValue k (pos 0)
zero_value kind.Bool = refl
zero_value kind.Char = refl
zero_value kind.SChar = refl
zero_value kind.UChar = refl
zero_value kind.Short = refl
zero_value kind.UShort = refl
zero_value kind.Int = refl
zero_value kind.UInt = refl
zero_value kind.Long = refl
zero_value kind.ULong = refl
zero_value kind.LLong = refl
zero_value kind.ULLong = refl

-- the difference of two values has far fewer than 127 bits
pub difference_fits : (k : Kind) (a b : ℤ) → IsValue k a → IsValue k b → FitsSigned w128 (a -ℤ b)
difference_fits k a b h g = let p = value_abs k a h in let q = value_abs k b g in search (arith, ints, p, q)
