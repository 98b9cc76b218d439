use Rattle.lk_arith.specs.declared.operators.Op.TheVariants as op
use Rattle.lk_typed.specs.Addresses.{moved_back}
use Rattle.lk_typed.specs.Operators as spec
use Rattle.lk_typed.specs.Typings.{typing, structs_in}
use Rattle.lk_check_expr.proofs.operators.difference.Goals as goal

pub returns : goal.returns
returns c = λ p q.
    let table = c.args.types.now in
    let x = typing table c.args.a.now p in
    let y = typing table c.args.b.now q in
    let structs = structs_in table c.args.structs.now in
    let to = moved_back x.address y.constant in
    let pointer = spec.moved_to to structs x y in
    let apart = spec.distance structs x y in
    let other = c.either-other.ensures table pointer apart (c.moved-pointer.ensures to p q) (c.distance-apart.ensures p q) in
    c.either.ensures table (spec.at_common_kind op.Subtract x y) (spec.either pointer apart) (c.at_common_kind-integer.ensures p q) other
