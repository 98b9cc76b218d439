use Rattle.std.proofs.Common.{◌≡◌, ◌∙◌, sym, ap, subst}
use Rattle.lk_typed.specs.Addresses.{value}
use Rattle.lk_typed.specs.Elaborated.{IsConverted}
use Rattle.lk_typed.specs.Elaborated.IsTyped.{compound}
use Rattle.lk_typed.specs.Meaning.{meaning_of}
use Rattle.lk_typed.specs.Operands as spec
use Rattle.lk_typed.specs.Operands.{computed_by, operand_types}
use Rattle.lk_typed.specs.Operators.{row_of}
use Rattle.lk_elaborator.proofs.Growing.{leads_before, true_on, type_on}
use Rattle.lk_elaborator.proofs.Numbers.{means_led}
use Rattle.lk_elab_expr.proofs.sides.compound_by.Goals as goal

pub returns-clause-two : goal.returns-clause-two
returns-clause-two c = λ o by is_by is_row computes folded p l r form first second own left right tables leads.
    let old = c.args.walk.now in
    let middle = c.number_of.new.walk in
    let grows = c.in_ok-at.ensures.grows in
    let operands = c.in_ok-operands.operands in
    let are = c.in_ok-operands.ensures.operands l r first second left right in
    let known = c.in_ok-operands.ensures.known in
    let a = value are.left in
    let b = value are.right in
    let types = are.types ∙ ap (λ row. operand_types row a b) (sym is_row) in
    let of_right : meaning_of middle.types operands.types.right ≡ (operand_types (row_of by) a b).right =
    type_on old middle grows own.ready operands.types.right known.right ∙ ap (λ (t : spec.OperandTypes). t.right) types in
    let means = means_led middle tables (grows.ready own.ready) (leads_before middle c.converted_operand.new.walk tables c.in_ok-value.ensures.grows leads) c.in_ok-at.at _
    c.in_ok-at.ensures.known (c.in_ok-at.ensures.means ∙ ap (λ (t : spec.OperandTypes). t.left) types) in
    record {
      left = c.itself_part.ensures.role _ _;
      right = c.in_ok-value.ensures.role _ _;
      gives = λ x y is_x is_y t makes.
          compound form is_by (ap computed_by is_row ∙ computes) are.left_found are.right_found (c.itself_part.ensures.typed tables folded l x is_x)
          (subst (λ ty. IsConverted tables folded r ty y) of_right (c.in_ok-value.ensures.converted r second (true_on old middle grows r right) tables leads folded y is_y))
          means makes;
    }
