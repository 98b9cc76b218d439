use Rattle.std.proofs.Common.{sym, subst}
use Rattle.lk_typed.specs.Operators as spec
use Rattle.lk_typed.specs.Typings.{typing, structs_in, IsResult}
use Rattle.lk_check_expr.proofs.operators.result_of.Goals as goal

pub returns-in-Logical : goal.returns-in-Logical
returns-in-Logical c = λ p q.
    let table = c.args.types.now in
    let x = typing table c.args.a.now p in
    let y = typing table c.args.b.now q in
    subst (λ row. IsResult table c.logical.result (spec.result_of (structs_in table c.args.structs.now) row x y)) (sym c.in-Logical.is) (c.logical.ensures p q)

pub returns-in-Sum : goal.returns-in-Sum
returns-in-Sum c = λ p q.
    let table = c.args.types.now in
    let x = typing table c.args.a.now p in
    let y = typing table c.args.b.now q in
    subst (λ row. IsResult table c.sum.result (spec.result_of (structs_in table c.args.structs.now) row x y)) (sym c.in-Sum.is) (c.sum.ensures p q)

pub returns-in-Difference : goal.returns-in-Difference
returns-in-Difference c = λ p q.
    let table = c.args.types.now in
    let x = typing table c.args.a.now p in
    let y = typing table c.args.b.now q in
    subst (λ row. IsResult table c.difference.result (spec.result_of (structs_in table c.args.structs.now) row x y)) (sym c.in-Difference.is) (c.difference.ensures p q)

pub returns-in-Equality : goal.returns-in-Equality
returns-in-Equality c = λ p q.
    let table = c.args.types.now in
    let x = typing table c.args.a.now p in
    let y = typing table c.args.b.now q in
    subst (λ row. IsResult table c.equality.result (spec.result_of (structs_in table c.args.structs.now) row x y)) (sym c.in-Equality.is) (c.equality.ensures p q)
