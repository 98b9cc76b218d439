use Rattle.std.proofs.Common.{subst}
use Rattle.lk_typed.specs.Operators as spec
use Rattle.lk_typed.specs.Typings.{typing, IsResult}
use Rattle.lk_check_expr.proofs.operators.equality.Goals as goal

pub returns : goal.returns
returns c = λ p q.
    let table = c.args.types.now in
    let x = typing table c.args.a.now p in
    let y = typing table c.args.b.now q in
    let truth = subst (λ taken. IsResult table c.truth_if-truth.result (spec.if_taken taken spec.plain_truth)) (c.are_comparable-comparable.ensures p q) (c.truth_if-truth.ensures table c.requires.ready) in
    c.either.ensures table (spec.at_common_kind c.args.op x y) (spec.if_taken (spec.are_comparable x y) spec.plain_truth) (c.at_common_kind-integer.ensures p q) truth
