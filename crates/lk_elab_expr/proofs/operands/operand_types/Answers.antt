use Rattle.std.proofs.Common.{◌∙◌, sym, ap}
use Rattle.lk_typed.specs.Operands as spec
use Rattle.lk_typed.specs.Typings.{typing}
use Rattle.lk_elab_expr.proofs.Operating.{usual_is}
use Rattle.lk_elab_expr.proofs.operands.operand_types.Goals as goal

pub returns-in-Logical : goal.returns-in-Logical
returns-in-Logical c = record {
  known = c.own_types.ensures.known c.args.types.now c.requires.first c.requires.second;
  value = λ p q.
      let x = typing c.args.types.now c.args.a.now p in
      let y = typing c.args.types.now c.args.b.now q in
      c.own_types.ensures.value c.args.types.now p q ∙ sym (ap (λ row. spec.operand_types row x y) c.in-Logical.is);
}

pub returns-in-Shift : goal.returns-in-Shift
returns-in-Shift c = record {
  known = c.promoted_types.ensures.known;
  value = λ p q.
      let x = typing c.args.types.now c.args.a.now p in
      let y = typing c.args.types.now c.args.b.now q in
      c.promoted_types.ensures.value p q ∙ sym (ap (λ row. spec.operand_types row x y) c.in-Shift.is);
}

pub returns-in-Integers : goal.returns-in-Integers
returns-in-Integers c = record {
  known = c.usual_types.ensures.known (c.own_types-in-Integers.ensures.known c.args.types.now c.requires.first c.requires.second);
  value = λ p q.
      let x = typing c.args.types.now c.args.a.now p in
      let y = typing c.args.types.now c.args.b.now q in
      c.usual_types.ensures.value p q ∙ ap (spec.usual_types x y) (c.own_types-in-Integers.ensures.value c.args.types.now p q) ∙ usual_is c.args.row x y c.in-Integers.is;
}

pub returns-in-Equality : goal.returns-in-Equality
returns-in-Equality c = record {
  known = c.usual_types-in-Equality.ensures.known c.compared_types.ensures.known;
  value = λ p q.
      let x = typing c.args.types.now c.args.a.now p in
      let y = typing c.args.types.now c.args.b.now q in
      c.usual_types-in-Equality.ensures.value p q ∙ ap (spec.usual_types x y) (c.compared_types.ensures.value p q) ∙ sym (ap (λ row. spec.operand_types row x y) c.in-Equality.is);
}
