use Rattle.std.proofs.Common.{◌+◌, drop, subst, sym}
use Rattle.lk_elaborator.proofs.Growing.{grows_same, grows_then}
use Rattle.lk_elab_init.proofs.Giving.{next_left, nothing_left}
use Rattle.lk_elaborate.proofs.Telling.{AreLocalsPut, all_made, none_made, one_made}
use Rattle.lk_elaborate.proofs.local_inits.local_parts.Goals as goal

pub loop-given-init : goal.loop-given-init
loop-given-init c =
    record {
      grows = grows_same c.args.walk.now;
      made = none_made c.args.walk.now c.args.givens.now c.new-parts.result.items c.new-parts.ensures.items;
    }

pub loop-given-preserved : goal.loop-given-preserved
loop-given-preserved c =
    let old = c.args.walk.now in
    let mid = c.loop-given.walk in
    let new = c.local_part.new.walk in
    let all = c.args.givens.now in
    let k = c.loop-given.given-index in
    let is = c.given-item.result in
    record {
      grows = grows_then old mid new c.loop-given.invariant.grows c.in_ok-part.ensures.grows;
      made = subst (AreLocalsPut old new all (drop (k + 1) all)) (sym c.in_ok-push.ensures.items)
          (one_made old all mid new (drop k all) (drop (k + 1) all) is c.loop-given.parts.items c.in_ok-part.part (next_left all k is c.loop-given-test.true c.given-item.is)
          c.loop-given.invariant.grows c.in_ok-part.ensures.grows c.loop-given.invariant.made c.in_ok-part.ensures.part);
    }

pub returns-clause-parts : goal.returns-clause-parts
returns-clause-parts c =
    let all = c.args.givens.now in
    let k = c.loop-given.given-index in
    all_made c.args.walk.now all c.loop-given.walk (drop k all) c.loop-given.parts.items (nothing_left all k c.loop-given-test.false) c.loop-given.invariant.made

pub returns-clause-grows : goal.returns-clause-grows
returns-clause-grows c = c.loop-given.invariant.grows
