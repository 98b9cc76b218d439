-- How many bytes a type has at most, by its elements.
use Rattle.std.proofs.Common.{◌≡◌, ◌≤◌, ◌<◌, ◌*◌, ◌^◌, ℕ, Option, Some, None, subst, arith}
use Rattle.std.specs.Prelude.{IfSome}
use Rattle.std.specs.Option.{option_map}
use Rattle.std.proofs.lemmas.Nat.{mul-le}
use Rattle.std.proofs.lemmas.Option.{IfSome_then}
use Rattle.lk_arith.specs.Kinds.{bytes_of}
use Rattle.lk_base.specs.declared.kind.Kind.{Kind}
use Rattle.lk_base.specs.declared.kind.Kind.TheVariants as kind
use Rattle.lk_typed.specs.DeclaratorRules.{elements}
use Rattle.lk_typed.specs.Sizes.{bytes_in}
use Rattle.lk_typed.specs.Ty.{Ty, Void, Int, ThreadId, Mutex, Cond, Pointer, Array, Struct, Function, Opaque}

kind_bytes : (k : Kind) → bytes_of k ≤ 8
kind_bytes kind.Bool = omega arith
kind_bytes kind.Char = omega arith
kind_bytes kind.SChar = omega arith
kind_bytes kind.UChar = omega arith
kind_bytes kind.Short = omega arith
kind_bytes kind.UShort = omega arith
kind_bytes kind.Int = omega arith
kind_bytes kind.UInt = omega arith
kind_bytes kind.Long = omega arith
kind_bytes kind.ULong = omega arith
kind_bytes kind.LLong = omega arith
kind_bytes kind.ULLong = omega arith

eight_times : (n e : ℕ) → n * (8 * e) ≡ 8 * (n * e)
eight_times n e = grind arith

array_bytes : (n b e : ℕ) → b ≤ 8 * e → n * b ≤ 8 * (n * e)
array_bytes n b e few = subst (λ m. n * b ≤ m) (eight_times n e) (mul-le n b n (8 * e) (omega arith) few)

elements_bytes : (n e : ℕ) (o : Option ℕ) → IfSome o (λ b. b ≤ 8 * e) → IfSome (option_map (λ b. n * b) o) (λ b. b ≤ 8 * (n * e))
elements_bytes n e None few = tt
elements_bytes n e (Some b) few = array_bytes n b e few

-- no more than 8 for each element
pub few_bytes : (t : Ty) → IfSome (bytes_in t) (λ b. b ≤ 8 * elements t)
few_bytes Void = tt
few_bytes (Int k) = kind_bytes k
few_bytes ThreadId = omega arith
few_bytes Mutex = tt
few_bytes Cond = tt
few_bytes (Pointer t) = omega arith
few_bytes (Array t n) = elements_bytes n (elements t) (bytes_in t) (few_bytes t)
few_bytes (Struct s) = tt
few_bytes (Function result params dots) = tt
few_bytes (Opaque n) = tt

some_few : (t : Ty) (b : ℕ) → bytes_in t ≡ Some b → b ≤ 8 * elements t
some_few t b is = subst (λ o. IfSome o (λ b. b ≤ 8 * elements t)) is (few_bytes t)

-- a product that counts the bytes of an array
pub product_below : (t : Ty) (n b : ℕ) → bytes_in t ≡ Some b → n * elements t < 2 ^ 64 → n * b < 2 ^ 127
product_below t n b is few = let bound = array_bytes n b (elements t) (some_few t b is) in omega (arith, bound, few)

pub bytes_below : (t : Ty) → elements t < 2 ^ 64 → IfSome (bytes_in t) (λ b. b < 2 ^ 127)
bytes_below t few = IfSome_then (bytes_in t) (few_bytes t) (λ b bound. omega (arith, bound, few))
