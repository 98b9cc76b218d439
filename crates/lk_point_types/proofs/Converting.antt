-- A conversion is one of its kinds.
use Rattle.std.proofs.Common.{◌⊎◌, ℕ, inl, inr}
use Rattle.lk_facts.specs.Typed.{IsConversion}
use Rattle.lk_facts.specs.Typed.IsConversion.{numbers, truth, same, to_void, from_void, threads}
use Rattle.lk_facts.specs.declared.program.Program.{Program}
use Rattle.lk_point_types.specs.Conversions.{AreThreads, ConvertsNumber, ConvertsPointer, ConvertsValue}

module _ (program : Program) (a p : ℕ) where
  number_is : ConvertsNumber program a p → IsConversion program a p
  number_is (inl both) = numbers both.0 both.1
  number_is (inr both) = truth both.0 both.1

  pointer_is : ConvertsPointer program a p → IsConversion program a p
  pointer_is (inl h) = same h.0 h.1 h.2
  pointer_is (inr (inl h)) = to_void h.0.0 h.0.1 h.0.2 h.1
  pointer_is (inr (inr h)) = from_void h.1.0 h.0 h.1.1 h.1.2

  pub conversion_is : ConvertsValue program a p → IsConversion program a p
  conversion_is (inl number) = number_is number
  conversion_is (inr pointer) = pointer_is pointer

  pub conversion_was : IsConversion program a p → ConvertsValue program a p ⊎ AreThreads program a p
  conversion_was (numbers from to) = inl (inl (inl (from, to)))
  conversion_was (truth from to) = inl (inl (inr (from, to)))
  conversion_was (same t from to) = inl (inr (inl (t, from, to)))
  conversion_was (to_void t from object to) = inl (inr (inr (inl ((t, from, object), to))))
  conversion_was (from_void t from to object) = inl (inr (inr (inr (from, (t, to, object)))))
  conversion_was (threads from to) = inr (from, to)
