use Rattle.lk_arith.specs.declared.operators.Op.TheVariants as op
use Rattle.lk_typed.specs.Addresses.{moved}
use Rattle.lk_typed.specs.Operators as spec
use Rattle.lk_typed.specs.Typings.{typing, structs_in}
use Rattle.lk_check_expr.proofs.operators.sum.Goals as goal

pub returns : goal.returns
returns c = λ p q.
    let table = c.args.types.now in
    let x = typing table c.args.a.now p in
    let y = typing table c.args.b.now q in
    let to = moved x.address y.constant in
    c.either.ensures table (spec.at_common_kind op.Add x y) (spec.moved_to to (structs_in table c.args.structs.now) x y)
    (c.at_common_kind-integer.ensures p q) (c.moved-pointer.ensures to p q)
