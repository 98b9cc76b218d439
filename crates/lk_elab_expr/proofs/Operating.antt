-- What the operands of an operator are converted to, by the questions that decide it.
use Rattle.std.proofs.Common.{◌≡◌, ◌∙◌, ◌⊎◌, inl, inr, Bool, sym, ap}
use Rattle.std.specs.Prelude.{if◌then◌else◌}
use Rattle.lk_arith.specs.declared.operators.Op.{Op}
use Rattle.lk_typed.specs.Conversions.{are_same_pointers}
use Rattle.lk_typed.specs.Operands as spec
use Rattle.lk_typed.specs.Operators.{is_pointer_beside_null}
use Rattle.lk_typed.specs.Ty.{void_pointer}
use Rattle.lk_typed.specs.Typing.{Typing}
use Rattle.lk_typed.specs.declared.binary_row.BinaryRow.{BinaryRow}
use Rattle.lk_typed.specs.declared.binary_row.BinaryRow.TheVariants as row

abbrev pub choose : Typing → Typing → Bool → Bool → Bool → spec.OperandTypes
choose x y same first second =
    if same then spec.own_types x y
    else if first then record { left = x.type; right = x.type }
    else if second then record { left = y.type; right = y.type }
    else record { left = void_pointer; right = void_pointer }

pub chosen : (x y : Typing) (s n m : Bool) → are_same_pointers x.type y.type ≡ s → is_pointer_beside_null x y ≡ n → is_pointer_beside_null y x ≡ m →
    choose x y s n m ≡ spec.compared_types x y
chosen x y s n m p q r =
    let same = are_same_pointers x.type y.type in
    let first = is_pointer_beside_null x y in
    sym (ap (λ b. choose x y b first (is_pointer_beside_null y x)) p ∙ ap (λ b. choose x y s b (is_pointer_beside_null y x)) q ∙ ap (λ b. choose x y s n b) r)

pub moves_is : (r : BinaryRow) (x y : Typing) → (r ≡ row.Sum) ⊎ (r ≡ row.Difference) → spec.is_move x y ≡ spec.moves_by_right r x y
moves_is r x y (inl is) = ap (λ r. spec.moves_by_right r x y) (sym is)
moves_is r x y (inr is) = ap (λ r. spec.moves_by_right r x y) (sym is)

abbrev IsUsual : BinaryRow → Type 0
IsUsual r = ((o : Op) × (r ≡ row.Integers o)) ⊎ ((r ≡ row.Sum) ⊎ ((r ≡ row.Difference) ⊎ ((o : Op) × (r ≡ row.Order o))))

pub usual_is : (r : BinaryRow) (x y : Typing) → IsUsual r → spec.usual_types x y (spec.own_types x y) ≡ spec.operand_types r x y
usual_is r x y (inl is) = ap (λ r. spec.operand_types r x y) (sym is.1)
usual_is r x y (inr (inl is)) = ap (λ r. spec.operand_types r x y) (sym is)
usual_is r x y (inr (inr (inl is))) = ap (λ r. spec.operand_types r x y) (sym is)
usual_is r x y (inr (inr (inr is))) = ap (λ r. spec.operand_types r x y) (sym is.1)
