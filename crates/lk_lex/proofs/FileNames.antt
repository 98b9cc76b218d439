-- The numbers of files' names.
use Rattle.std.proofs.Common.{◌≡◌, ℕ, zero, suc, ◌+◌, ◌≤◌, Bool, true, false, not, cond, nat_eq, if◌then◌else◌, List, [], ◌∷◌, ◌++◌, length, Option, Some, None, Result, Ok, Err, IfOk, OnOk, slice_get, refl, sym, ap, ◌∙◌, arith}
use Rattle.std.specs.Cmp.Lexicographic.{pointwise}
use Rattle.std.specs.List.{AllByRecursion, IsDistinct, position_or_len}
use Rattle.std.proofs.lemmas.Bool.{true≢false}
use Rattle.std.proofs.lemmas.List.{length-append, append_assoc, append-nil}
use Rattle.std.proofs.lemmas.Map.Keys.{IsDistinct-head, IsDistinct-tail}
use Rattle.std.proofs.lemmas.Slice.Eq.{bytes_eq-Decides}
use Rattle.lk_base.specs.Files.{has_name, with_name, AreDifferent}
use Rattle.lk_base.specs.declared.memory.NoMemory.{NoMemory}
use Rattle.lk_lex.specs.Answer.{Extends}
use Rattle.lk_lex.specs.Tokens.{names_with}

abbrev same : List ℕ → List ℕ → Bool
same a b = pointwise nat_eq a b

same_self : (name : List ℕ) → same name name ≡ true
same_self name = (bytes_eq-Decides name name).1 refl

not_there : (first name : List ℕ) (names : List (List ℕ)) (i : ℕ) → AllByRecursion (λ y. same first y ≡ false) names → slice_get names i ≡ Some name → same first name ≡ false
not_there first name [] i all there = absurd cc
not_there first name (n ∷ ns) zero all there = let equal : n ≡ name = cc in ap (same first) (sym equal) ∙ all.0
not_there first name (n ∷ ns) (suc i) all there = not_there first name ns i all.1 there

-- the place of a name among different names is the first of an equal one
place_is : (names : List (List ℕ)) (name : List ℕ) (i : ℕ) → IsDistinct (pointwise nat_eq) names → slice_get names i ≡ Some name → i ≡ position_or_len (same name) names
place_is [] name i apart there = absurd cc
place_is (n ∷ ns) name zero apart there =
    let equal : n ≡ name = cc in let found : same name n ≡ true = ap (same name) equal ∙ same_self name in rw found refl
place_is (n ∷ ns) name (suc i) apart there = by (same name n) refl (place_is ns name i (IsDistinct-tail _ n ns apart) there)
  where
    by : (found : Bool) → same name n ≡ found → i ≡ position_or_len (same name) ns → suc i ≡ cond (not found) (1 + position_or_len (same name) ns) 0
    by true e others =
        let equal : name ≡ n = (bytes_eq-Decides name n).0 e in
        absurd (true≢false (sym (same_self n) ∙ ap (same n) (sym equal) ∙ not_there n name ns i (IsDistinct-head _ n ns apart) there))
    by false e others = omega arith

place_put : (names : List (List ℕ)) (name : List ℕ) → position_or_len (same name) (names ++ name ∷ []) ≡ position_or_len (same name) names
place_put [] name = rw (same_self name) refl
place_put (n ∷ ns) name = by (same name n) (place_put ns name)
  where
    by : (found : Bool) → position_or_len (same name) (ns ++ name ∷ []) ≡ position_or_len (same name) ns → cond (not found) (1 + position_or_len (same name) (ns ++ name ∷ [])) 0 ≡ cond (not found) (1 + position_or_len (same name) ns) 0
    by true others = refl
    by false others = ap (λ n. 1 + n) others

place_with : (names : List (List ℕ)) (name : List ℕ) → position_or_len (same name) (with_name names name) ≡ position_or_len (same name) names
place_with names name = by (has_name names name)
  where
    by : (found : Bool) → position_or_len (same name) (if found then names else names ++ name ∷ []) ≡ position_or_len (same name) names
    by true = refl
    by false = place_put names name

-- what `put` gives is the place of the first equal name, or the place behind all of them
pub put_place : (r : Result ℕ NoMemory) (old new : List (List ℕ)) (name : List ℕ) → IfOk r (λ i. slice_get new i ≡ Some name) → OnOk r (new ≡ with_name old name) → AreDifferent new
    → IfOk r (λ i. i ≡ position_or_len (pointwise nat_eq name) old)
put_place (Ok i) old new name there put apart = place_is new name i apart there ∙ ap (position_or_len (same name)) put ∙ place_with old name
put_place (Err e) old new name there put apart = tt

-- one name more at most
pub names_with-few : (names : List (List ℕ)) (name : Option (List ℕ)) → length (names_with names name) ≤ length names + 1
names_with-few names None = omega arith
names_with-few names (Some name) = by (has_name names name)
  where
    by : (found : Bool) → length (if found then names else names ++ name ∷ []) ≤ length names + 1
    by true = omega arith
    by false = omega (arith, length-append names (name ∷ []))

pub names_with-extends : (names : List (List ℕ)) (name : Option (List ℕ)) → Extends names (names_with names name)
names_with-extends names None = ([], sym (append-nil names))
names_with-extends names (Some name) = by (has_name names name)
  where
    by : (found : Bool) → Extends names (if found then names else names ++ name ∷ [])
    by true = ([], sym (append-nil names))
    by false = (name ∷ [], refl)

pub extends-extends : (a b c : List (List ℕ)) → Extends a b → Extends b c → Extends a c
extends-extends a b c first behind = (first.0 ++ behind.0, behind.1 ∙ ap (λ m. m ++ behind.0) first.1 ∙ append_assoc a first.0 behind.0)

pub extends_self : (names : List (List ℕ)) → Extends names names
extends_self names = ([], sym (append-nil names))
