-- A turn of the loop over the arrays and functions behind a direct declarator.
use Rattle.std.proofs.Common.{◌≡◌, ℕ, suc, ◌-◌, Bool, true, false, if◌then◌else◌, Some, Ok, Err, refl, sym}
use Rattle.lk_base.specs.declared.spot.Spot.{Spot}
use Rattle.lk_lex.specs.declared.punct.Punct.TheVariants as p
use Rattle.lk_tree.specs.declared.expression.Declarator.{Declarator}
use Rattle.lk_parse_expr.specs.declared.found.Found.{Found}
use Rattle.lk_parse_expr.specs.declared.naming.Head.{Head}
use Rattle.lk_parse_expr.specs.Input.{Input}
use Rattle.lk_parse_expr.specs.Readers.{Outcome, Parser, and_then, ◌>>◌, need, take, sees}
use Rattle.lk_parse_expr.specs.Reading.{Readers, array_of, function_of, grown_from}
use Rattle.lk_parse_expr.specs.Parts.{array_behind, function_behind}

and_then_on : {A B C : Type 0} (x : Outcome A) (f : A → Parser B) (g : B → Parser C) → and_then (and_then x f) g ≡ and_then x (λ a. λ i. and_then (f a i) g)
and_then_on (Ok p) f g = refl
and_then_on (Err e) f g = refl

if_same : {A : Type 0} {x x' y y' : A} (z : A) (b c : Bool) → x ≡ x' → y ≡ y' → (if b then x else (if c then y else z)) ≡ (if b then x' else (if c then y' else z))
if_same z true c e f = e
if_same z false true e f = f
if_same z false false e f = refl

module _ (m : ℕ) (below : Readers) (spot : Spot) (before : Found (Declarator × Head)) where
  pub grown_once : (n : ℕ) (i : Input) → grown_from m below spot (suc n) before i
      ≡ (if sees p.OpenBracket i then and_then (array_behind m below spot before i) (grown_from m below spot n)
      else (if sees p.OpenParen i then and_then (function_behind m below spot before i) (grown_from m below spot n) else Ok (before, i)))
  unfolding grown_from
  grown_once n i = if_same (Ok (before, i)) (sees p.OpenBracket i) (sees p.OpenParen i)
      (sym (and_then_on (need 1 before.room i) (λ _. take >> array_of m below spot (Some before.tree.0) before.tree.1 (before.room - 1)) (grown_from m below spot n)))
      (sym (and_then_on (need 1 before.room i) (λ _. take >> function_of m below spot (Some before.tree.0) before.tree.1 (before.room - 1)) (grown_from m below spot n)))
