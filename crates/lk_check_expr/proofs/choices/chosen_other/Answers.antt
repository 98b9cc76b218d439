use Rattle.std.proofs.Common.{refl, ap}
use Rattle.lk_typed.specs.Conversions.{are_same_pointers, are_void_and_object}
use Rattle.lk_typed.specs.Operators as spec
use Rattle.lk_typed.specs.Ty.{Pointer, Void, is_void, void_pointer}
use Rattle.lk_typed.specs.Typing.{value_of_type}
use Rattle.std.specs.Prelude.{◌&&◌}
use Rattle.lk_typed.specs.Typings.{typing}
use Rattle.lk_typed.proofs.FirstTypes.{void_known, void_means}
use Rattle.lk_check_expr.proofs.Rows.{line}
use Rattle.lk_check_expr.proofs.choices.chosen_other.Goals as goal

pub returns : goal.returns
returns c = λ p q.
    let table = c.args.types.now in
    let x = typing table c.args.a.now p in
    let y = typing table c.args.b.now q in
    let ready = c.requires.ready in
    let void = void_means table ready in
    let one = line table c.of_type_if-line_1.result c.are_void-both_void.ensures void (c.of_type_if-line_1.ensures table (void_known table ready)) in
    let two = line table c.of_type_if-line_2.result c.are_same_pointers-same.ensures refl (c.of_type_if-line_2.ensures table c.requires.first.known) in
    let three = line table c.of_type_if-line_3.result (c.is_pointer_beside_null-null_behind.ensures p q) refl (c.of_type_if-line_3.ensures table c.requires.first.known) in
    let four = line table c.of_type_if-line_4.result (c.is_pointer_beside_null-null_before.ensures q p) refl (c.of_type_if-line_4.ensures table c.requires.second.known) in
    let five = line table c.of_type_if-line_5.result c.are_void_and_object-void_and_object.ensures (ap Pointer void) (c.of_type_if-line_5.ensures table (void_known table ready)) in
    let row_1 = spec.if_taken (is_void x.type && is_void y.type) (value_of_type Void) in
    let row_2 = spec.if_taken (are_same_pointers x.type y.type) (value_of_type x.type) in
    let row_3 = spec.if_taken (spec.is_pointer_beside_null x y) (value_of_type x.type) in
    let row_4 = spec.if_taken (spec.is_pointer_beside_null y x) (value_of_type y.type) in
    let row_5 = spec.if_taken (are_void_and_object x.type y.type) (value_of_type void_pointer) in
    let from_4 = c.either-from_4.ensures table row_4 row_5 four five in
    let from_3 = c.either-from_3.ensures table row_3 (spec.either row_4 row_5) three from_4 in
    let from_2 = c.either-from_2.ensures table row_2 (spec.either row_3 (spec.either row_4 row_5)) two from_3 in
    c.either.ensures table row_1 (spec.either row_2 (spec.either row_3 (spec.either row_4 row_5))) one from_2
