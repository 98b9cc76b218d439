use Rattle.std.proofs.Common.{◌∙◌, true, false, refl, sym, ap}
use Rattle.lk_typed.specs.Ty.{Pointer}
use Rattle.lk_typed.specs.Typings.{typing}
use Rattle.lk_typed.proofs.FirstTypes.{void_means}
use Rattle.lk_elab_expr.specs.OperandTypes.{types_in}
use Rattle.lk_elab_expr.proofs.Operating.{chosen}
use Rattle.lk_elab_expr.proofs.operands.compared_types.Goals as goal

pub returns-then-are_same_pointers-clause-known : goal.returns-then-are_same_pointers-clause-known
returns-then-are_same_pointers-clause-known c = c.own_types.ensures.known c.args.types.now c.requires.first c.requires.second

pub returns-then-are_same_pointers-clause-value : goal.returns-then-are_same_pointers-clause-value
returns-then-are_same_pointers-clause-value c = λ p q.
    let x = typing c.args.types.now c.args.a.now p in
    let y = typing c.args.types.now c.args.b.now q in
    c.own_types.ensures.value c.args.types.now p q ∙
    chosen x y true _ _ (sym c.are_same_pointers.ensures ∙ c.if-are_same_pointers.true) refl refl

pub returns-then-is_pointer_beside_null-clause-value : goal.returns-then-is_pointer_beside_null-clause-value
returns-then-is_pointer_beside_null-clause-value c = λ p q.
    let x = typing c.args.types.now c.args.a.now p in
    let y = typing c.args.types.now c.args.b.now q in
    ap (types_in c.args.types.now) c.both_of.ensures ∙
    chosen x y false true _ (sym c.are_same_pointers.ensures ∙ c.if-are_same_pointers.false) (sym (c.is_pointer_beside_null.ensures p q) ∙ c.if-is_pointer_beside_null.true) refl

pub returns-then-is_pointer_beside_null-2-clause-value : goal.returns-then-is_pointer_beside_null-2-clause-value
returns-then-is_pointer_beside_null-2-clause-value c = λ p q.
    let x = typing c.args.types.now c.args.a.now p in
    let y = typing c.args.types.now c.args.b.now q in
    ap (types_in c.args.types.now) c.both_of-then-is_pointer_beside_null-2.ensures ∙
    chosen x y false false true (sym c.are_same_pointers.ensures ∙ c.if-are_same_pointers.false) (sym (c.is_pointer_beside_null.ensures p q) ∙ c.if-is_pointer_beside_null.false) (sym (c.is_pointer_beside_null-else-is_pointer_beside_null.ensures q p) ∙ c.if-is_pointer_beside_null-2.true)

pub returns-else-is_pointer_beside_null-2-clause-value : goal.returns-else-is_pointer_beside_null-2-clause-value
returns-else-is_pointer_beside_null-2-clause-value c = λ p q.
    let x = typing c.args.types.now c.args.a.now p in
    let y = typing c.args.types.now c.args.b.now q in
    ap (types_in c.args.types.now) c.both_of-else-is_pointer_beside_null-2.ensures ∙
    ap (λ t. record { left = Pointer t; right = Pointer t }) (void_means c.args.types.now c.requires.ready) ∙
    chosen x y false false false (sym c.are_same_pointers.ensures ∙ c.if-are_same_pointers.false) (sym (c.is_pointer_beside_null.ensures p q) ∙ c.if-is_pointer_beside_null.false) (sym (c.is_pointer_beside_null-else-is_pointer_beside_null.ensures q p) ∙ c.if-is_pointer_beside_null-2.false)
