use Rattle.std.proofs.Common.{◌≡◌, ◌∙◌, sym, ap, subst}
use Rattle.std.specs.Prelude.{◌&&◌}
use Rattle.lk_typed.specs.Addresses.{value}
use Rattle.lk_typed.specs.Elaborated.{IsConverted, IsOperand}
use Rattle.lk_typed.specs.Elaborated.IsTyped.{operator}
use Rattle.lk_typed.specs.Meaning.{meaning_of}
use Rattle.lk_typed.specs.Operands as spec
use Rattle.lk_typed.specs.Operands.{computed_by, moves_by_right, operand_types}
use Rattle.lk_typed.specs.Operators.{row_of}
use Rattle.lk_elaborator.proofs.Growing.{leads_before, true_on, type_on}
use Rattle.lk_elab_expr.proofs.operators.computed.Goals as goal

pub returns-clause-two : goal.returns-clause-two
returns-clause-two c = λ o is_row computes p l r form first second own left right tables leads.
    let old = c.args.walk.now in
    let middle = c.converted_operand.new.walk in
    let operands = c.in_ok-operands.operands in
    let are = c.in_ok-operands.ensures.operands l r first second left right in
    let known = c.in_ok-operands.ensures.known in
    let row = sym is_row in
    let a = value are.left in
    let b = value are.right in
    let types = are.types ∙ ap (λ row. operand_types row a b) row in
    let moves = ap (λ m. c.args.folded && m) (ap (λ row. moves_by_right row a b) (sym row) ∙ sym are.moves) ∙ sym c.moves_folded-moves.ensures in
    let of_right : meaning_of middle.types operands.types.right ≡ (operand_types (row_of o) a b).right =
    type_on old middle c.in_ok-first.ensures.grows own.ready operands.types.right known.right ∙ ap (λ (t : spec.OperandTypes). t.right) types in
    record {
      left = c.in_ok-first.ensures.role _ _;
      right = c.in_ok-second.ensures.role _ _;
      gives = λ x y is_x is_y t makes.
          operator form (ap computed_by is_row ∙ computes) are.left_found are.right_found
          (subst (λ ty. IsConverted tables c.args.folded l ty x) (ap (λ (t : spec.OperandTypes). t.left) types)
          (c.in_ok-first.ensures.converted l first left tables (leads_before middle c.operand_part.new.walk tables c.in_ok-second.ensures.grows leads) c.args.folded x is_x))
          (subst (λ ty. IsOperand tables c.args.folded (moves_by_right (row_of o) a b) r ty y) of_right
          (c.in_ok-second.ensures.operand r second (true_on old middle c.in_ok-first.ensures.grows r right) tables leads c.args.folded y is_y (moves_by_right (row_of o) a b) moves))
          makes;
    }
