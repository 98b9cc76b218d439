use Rattle.std.proofs.Common.{◌≡◌, ◌<◌, ◌∙◌, sym, subst}
use Rattle.lk_sets.specs.Rows.{row_of}
use Rattle.lk_sets.proofs.Reading.{read_here}
use Rattle.lk_origin.proofs.TakeLemmas.{taking_none, taking_more, taking_all}
use Rattle.lk_origin.proofs.taking.take_row.Goals as goal

pub loop-b-init : goal.loop-b-init
loop-b-init c =
    let is : c.into_iter-b-iterator.result ≡ row_of c.args.from.now c.args.a = (cc) in
    taking_none c.args.from.now c.args.into.now c.args.a _ is

pub loop-b-preserved : goal.loop-b-preserved
loop-b-preserved c = taking_more c.in-Some.ensures.steps c.loop-b.invariant c.put-changed.ensures.pairs c.put-changed.ensures.grows

pub put-changed-requires-clause-a : goal.put-changed-requires-clause-a
put-changed-requires-clause-a c = subst (λ n. c.args.a < n) (sym c.loop-b.invariant.grows.size) c.requires.a

pub put-changed-requires-clause-b : goal.put-changed-requires-clause-b
put-changed-requires-clause-b c =
    let there = c.loop-b.invariant.inside c.in-Some.b (read_here c.in-Some.ensures.steps) in
    let within = (c.row-b-items.ensures.square.within c.args.a c.in-Some.b there).1 in
    subst (λ n. c.in-Some.b < n) (c.requires.size ∙ sym c.loop-b.invariant.grows.size) within

pub returns-clause-pairs : goal.returns-clause-pairs
returns-clause-pairs c = taking_all c.in-None.ensures.steps.0 c.loop-b.invariant
