use Rattle.std.proofs.Common.{◌∙◌, sym}
use Rattle.std.proofs.lemmas.Bool.{false≢true}
use Rattle.lk_types.proofs.KeptLemmas.{read_got}
use Rattle.lk_link.proofs.Differing.{alike_more, alike_all}
use Rattle.lk_link.proofs.differ.is_different.Goals as goal

pub loop-other-preserved : goal.loop-other-preserved
loop-other-preserved c =
    let group = c.args.group.now in
    let n = c.loop-other.other-index in
    let other = c.other-item.result in
    alike_more c.args.units.now group c.args.site.now n other (read_got group n other c.loop-other-test.true c.other-item.is)
    (λ differ. false≢true (sym c.if-branch.false ∙ c.in_ok-differs.ensures.1 differ)) c.loop-other.invariant

pub returns : goal.returns
returns c =
    ((λ is. absurd (false≢true is)), (λ different. absurd (alike_all c.args.units.now c.args.group.now c.args.site.now c.loop-other.other-index c.loop-other-test.false c.loop-other.invariant different)))
