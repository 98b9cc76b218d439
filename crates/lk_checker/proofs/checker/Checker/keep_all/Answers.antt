use Rattle.std.proofs.Common.{◌∷◌, [], take, subst}
use Rattle.lk_found.proofs.Completing.{taken_more}
use Rattle.lk_found.specs.Specified.{breach_in, breaches_in}
use Rattle.lk_checker.proofs.KeepsAll.{none_kept, same_refl, same_then, then_kept}
use Rattle.lk_checker.specs.Moves.{KeepsAt}
use Rattle.lk_checker.proofs.checker.Checker.keep_all.Goals as goal

pub loop-breach-init : goal.loop-breach-init
loop-breach-init c = (same_refl c.args.self.now, none_kept c.args.self.now c.args.at)

pub loop-breach-preserved : goal.loop-breach-preserved
loop-breach-preserved c =
    let old = c.args.self.now in
    let now = c.loop-breach.self in
    let next = c.keep_breach.new.self in
    let bs = c.args.breaches.now in
    let i = c.loop-breach.breach-index in (
      same_then old now next c.loop-breach.invariant.0 c.in_ok-keep_breach.ensures.same,
      subst (KeepsAt old next c.args.at) (taken_more breach_in bs i c.breach-item.result c.breach-item.is c.loop-breach-test.true)
          (then_kept old now next c.args.at (breaches_in (take i bs)) (breach_in c.breach-item.result ∷ []) c.loop-breach.invariant.1 c.in_ok-keep_breach.ensures.kept),
    )
