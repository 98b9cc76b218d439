use Rattle.std.proofs.Common.{All, refl, subst, sym, arith}
use Rattle.lk_graph.specs.Passing.{IsPassed}
use Rattle.lk_graph.specs.Search.{IsArrow}
use Rattle.lk_graph.proofs.PassingLemmas.{row_passed}
use Rattle.lk_graph.proofs.graph.Graph.pass_row.Goals as goal

pub returns : goal.returns
returns c =
    let graph = c.args.self.now in
    let a = c.args.a in
    let step = c.pass_each-changed.ensures in
    let old = c.args.rows.now in
    let new = c.pass_each-changed.new.rows in
    row_passed graph a old new c.args.marks.now.items c.pass_each-changed.new.marks.items _ c.pass_each-changed.result (omega (arith, c.requires.number, c.requires.long))
    step.grows
    (λ arrows. step.sound graph (subst (All (IsArrow graph a)) (sym c.ends.ensures.value) arrows))
    step.marks
    refl
    (subst (All (IsPassed new a)) c.ends.ensures.value step.passed)
