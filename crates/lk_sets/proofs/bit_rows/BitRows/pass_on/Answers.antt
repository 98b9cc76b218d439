use Rattle.std.proofs.lemmas.List.Elements.{All-nil, Contains-get_or}
use Rattle.lk_sets.specs.Spread.{IsSound, PassesOn}
use Rattle.lk_sets.proofs.Closing.{going_none, going_each, going_all}
use Rattle.lk_sets.proofs.Reaching.{going_arrow}
use Rattle.lk_sets.proofs.bit_rows.BitRows.pass_on.Goals as goal

pub join_row-changed-requires-clause-from : goal.join_row-changed-requires-clause-from
join_row-changed-requires-clause-from c = rw (c.loop-arrow.invariant c.args.self.now).grows.size (c.requires _ _ c.loop-arrow-test.true).0

pub join_row-changed-requires-clause-into : goal.join_row-changed-requires-clause-into
join_row-changed-requires-clause-into c = rw (c.loop-arrow.invariant c.args.self.now).grows.size (c.requires _ _ c.loop-arrow-test.true).1

pub loop-arrow-init : goal.loop-arrow-init
loop-arrow-init c = λ first. going_none (IsSound c.args.arrows.now first) _ c.args.self.now (All-nil (PassesOn c.args.self.now))

pub loop-arrow-preserved : goal.loop-arrow-preserved
loop-arrow-preserved c = λ first.
    let xs = c.args.arrows.now in
    let i = c.loop-arrow.arrow-index in
    going_each PassesOn xs i _ c.loop-arrow-test.true (c.loop-arrow.invariant first)
    (going_arrow xs first _ _ _ _ (Contains-get_or xs i _ c.loop-arrow-test.true) c.join_row-changed.ensures.pairs c.join_row-changed.ensures.grows)

pub returns : goal.returns
returns c = λ first. going_all PassesOn c.args.arrows.now _ c.loop-arrow-test.false (c.loop-arrow.invariant first)
