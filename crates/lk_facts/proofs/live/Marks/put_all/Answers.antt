use Rattle.std.proofs.Common.{◌<◌, get_or, refl, sym, subst}
use Rattle.std.proofs.lemmas.List.{take_all}
use Rattle.lk_facts.proofs.LiveLemmas.{marked_none, marked_more}
use Rattle.lk_facts.specs.Marks.{AreMarked}
use Rattle.lk_facts.proofs.live.Marks.put_all.Goals as goal

pub loop-p-init : goal.loop-p-init
loop-p-init c = marked_none _

pub loop-p-preserved : goal.loop-p-preserved
loop-p-preserved c = marked_more c.args.ps.now c.loop-p.p-index _ _ _ _ c.loop-p-test.true refl c.loop-p.invariant c.in_ok-put.ensures

pub put-requires : goal.put-requires
put-requires c =
    subst (λ n. get_or c.args.ps.now c.loop-p.p-index 0 < n) (sym c.loop-p.invariant.long) (c.requires c.loop-p.p-index 0 c.loop-p-test.true)

pub returns : goal.returns
returns c = subst (λ ps. AreMarked ps c.args.self.now c.loop-p.self) (take_all c.loop-p.p-index c.args.ps.now c.loop-p-test.false) c.loop-p.invariant
