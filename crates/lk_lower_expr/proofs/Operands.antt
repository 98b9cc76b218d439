-- The operands of calls, one after the other.
use Rattle.std.proofs.Common.{arith, sym, ap, ◌∙◌, ◌≡◌, ◌+◌, ◌-◌, ◌<◌, ◌++◌, ℕ, List, get_or, drop, length, add-one, append_assoc, drop-cons}
use Rattle.std.specs.Prelude.{[], ◌∷◌, suc}
use Rattle.lk_lower_expr.specs.Expressions.{part, form_part, library_part, callee_part, of_callee, of_form, of_library, of_expr}
use Rattle.lk_lower_expr.specs.Library.{Called, by_pointer}
use Rattle.lk_lower_expr.specs.Names.{Names, Node}
use Rattle.lk_lower_expr.specs.Parts.{Part}
use Rattle.lk_typed.specs.declared.expression.Callee.{Callee}
use Rattle.lk_typed.specs.declared.expression.Callee.TheFolds.{fold-roll-Callee}
use Rattle.lk_typed.specs.declared.expression.Callee.TheOpen.{Callee-F}
use Rattle.lk_typed.specs.declared.expression.Callee.TheVariants as callee
use Rattle.lk_typed.specs.declared.expression.TypedExpr.{TypedExpr}

-- from an index on stands what is there, and then the others
pub from_index : {A : Type 0} (xs : List A) (i : ℕ) (x : A) → i < length xs → x ≡ get_or xs i x → drop i xs ≡ x ∷ drop (i + 1) xs
from_index xs i x inside is = drop-cons xs i x inside ∙ ap (λ y. y ∷ drop (suc i) xs) (sym is) ∙ ap (λ n. x ∷ drop n xs) (sym (add-one i))

-- what stands before the last k of a list, and then those
pub from_end : {A : Type 0} (xs : List A) (k i : ℕ) (x : A) → k < length xs → i ≡ length xs - 1 - k → x ≡ get_or xs i x → drop (length xs - (k + 1)) xs ≡ x ∷ drop (length xs - k) xs
from_end xs k i x inside at is = ap (λ n. drop n xs) before ∙ from_index xs i x here is ∙ ap (λ n. x ∷ drop n xs) behind
  where
    before : length xs - (k + 1) ≡ i
    before = omega (arith, inside, at)

    here : i < length xs
    here = omega (arith, inside, at)

    behind : i + 1 ≡ length xs - k
    behind = omega (arith, inside, at)

-- what is said of the first of a list, and then of the rest
pub moved_on : {A : Type 0} (all old new rest tail : List A) (v w : A) →
    all ≡ old ++ tail → tail ≡ w ∷ rest → v ≡ w → new ≡ old ++ (v ∷ []) → all ≡ new ++ rest
moved_on all old new rest tail v w whole turn same pushed =
    whole ∙ ap (λ t. old ++ t) (turn ∙ ap (λ x. x ∷ rest) (sym same)) ∙ sym (ap (λ n. n ++ rest) pushed ∙ append_assoc old (v ∷ []) rest)

pub pointer_called : (names : Names) (called : Callee) (a : TypedExpr) → called ≡ callee.Pointer a → callee_part names called ≡ by_pointer (part names a)
unfolding part form_part library_part callee_part
pointer_called names called a is = ap (callee_part names) (is ∙ sym (callee.rolls-Pointer a)) ∙
    fold-roll-Callee Called (Node → Part) (Node → Part) Part (of_callee names) (of_form names) (of_library names) (of_expr names) (Callee-F.Pointer a)
