use Rattle.std.proofs.Common.{◌<◌, All, length, subst, sym}
use Rattle.lk_held.specs.Acts.{basis_in}
use Rattle.lk_held.specs.Holding.{IsKept}
use Rattle.lk_held.proofs.AddLemmas.{states_within}
use Rattle.lk_held.proofs.LockSetLemmas.{kept_below, kept_more}
use Rattle.lk_held.proofs.acts.Acts.kept.Goals as goal

pub keeps-requires-clause-locks : goal.keeps-requires-clause-locks
keeps-requires-clause-locks c =
    let basis = basis_in c.args.self.now in
    subst (All (λ x. x < length basis.labels.entries)) (sym c.at.ensures) (states_within basis c.args.states.now c.loop-point.point c.requires.states)

pub loop-point-preserved : goal.loop-point-preserved
loop-point-preserved c =
    let basis = basis_in c.args.self.now in
    let kept = subst (λ ids. IsKept basis c.loop-point.point ids c.in_ok-keeps.field-0) c.at.ensures c.in_ok-keeps.ensures in
    kept_more basis c.args.states.now (length basis.labels.entries) c.loop-point.point c.loop-point.sets.items c.push.new.self.items c.in_ok-keeps.field-0
    c.in_ok-push.ensures.items kept (kept_below basis c.args.states.now c.loop-point.point c.in_ok-keeps.field-0 c.requires.states kept) c.loop-point.invariant
