-- Structs that are one in the program: chains of structs, from either end, and joined.
use Rattle.std.proofs.Common.{inl, inr}
use Rattle.lk_link.specs.Sources.{Units}
use Rattle.lk_link.specs.Structs.{Becomes}
use Rattle.lk_link.specs.Structs.Becomes.{completed, itself}
use Rattle.lk_link.specs.declared.place.StructOf.{StructOf}
use Rattle.std.proofs.Common.{◌∙◌, sym}
use Rattle.std.proofs.lemmas.Bool.{false≢true}
use Rattle.lk_join.specs.Classes.{IsInProgram, AreLinked, AreOneStruct}
use Rattle.lk_join.specs.Classes.AreOneStruct.{same, next}

module _ (units : Units) where
  -- what a struct is in the program is itself there
  pub image_itself : {s t : StructOf} → Becomes units s t → Becomes units t t
  image_itself (completed h) = itself (λ u k. false≢true (sym h.by.complete.complete ∙ k.incomplete))
  image_itself (itself none_) = itself none_

  pub linked_turned : (s z : StructOf) → AreLinked units s z → AreLinked units z s
  linked_turned s z (inl h) = inr h
  linked_turned s z (inr h) = inl h

  pub one_then : {r q s : StructOf} → AreOneStruct units r q → AreOneStruct units q s → AreOneStruct units r s
  one_then h same = h
  one_then h (next k is linked) = next (one_then h k) is linked

  pub one_in_program : {r s : StructOf} → IsInProgram units r → AreOneStruct units r s → IsInProgram units s
  one_in_program first same = first
  one_in_program first (next k is linked) = is

  pub one_link : (r s : StructOf) → IsInProgram units s → AreLinked units r s → AreOneStruct units r s
  one_link r s is linked = next same is linked

  pub one_turned : {r s : StructOf} → IsInProgram units r → AreOneStruct units r s → AreOneStruct units s r
  one_turned first same = same
  one_turned {r} {s} first (next {q = q} k is linked) = one_then (one_link s q (one_in_program first k) (linked_turned q s linked)) (one_turned first k)
