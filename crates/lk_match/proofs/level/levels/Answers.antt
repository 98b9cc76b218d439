use Rattle.std.proofs.Common.{◌≡◌, ◌∙◌, ℕ, ◌&&◌, eqb, nat_lt, subst}
use Rattle.lk_sets.specs.Rows.{has}
use Rattle.lk_sets.proofs.Closing.{grown_more}
use Rattle.lk_match.proofs.LevelLemmas.{are_levels}
use Rattle.lk_match.proofs.level.levels.Goals as goal

pub loop-rows-preserved : goal.loop-rows-preserved
loop-rows-preserved c = grown_more c.loop-rows.invariant c.in_ok-extend.ensures

pub returns : goal.returns
returns c =
    let grown = grown_more c.loop-rows.invariant c.in_ok-extend.ensures in
    let first = c.in_ok-rows.rows in
    let pairs = subst (λ n. (a b : ℕ) → has first a b ≡ (nat_lt a n && eqb a b)) c.count.ensures.value c.in_ok-rows.ensures.pairs in
    are_levels c.args.edges.now c.args.labels.now first c.extend.new.rows c.requires pairs grown.kept grown.sound (c.in_ok-extend.ensures.done c.if-branch.false)
    (grown.size ∙ (c.in_ok-rows.ensures.size ∙ c.count.ensures.value))
