use Rattle.std.proofs.Common.{◌<◌, length, subst, sym, arith}
use Rattle.lk_links.specs.declared.link.Link.{Link}
use Rattle.lk_links.specs.Links.{AreLinksAt}
use Rattle.lk_held.specs.Acts.{basis_in}
use Rattle.lk_held.proofs.acts.Acts.put_calls.Goals as goal

pub put-requires-clause-a : goal.put-requires-clause-a
put-requires-clause-a c =
    let basis = basis_in c.args.self.now in
    let are : AreLinksAt basis c.args.point c.at-link-items.result.now = subst (AreLinksAt basis c.args.point) (sym c.at-link-items.ensures) (c.requires.linked.each c.args.point c.requires.point) in
    let within = subst (λ (l : Link). l.above < length basis.program.functions) (sym c.link-item.is) (are.each c.loop-link.link-index c.link-item.result c.loop-link-test.true).above in
    omega (arith, within, c.loop-link.invariant)

pub put-requires-clause-b : goal.put-requires-clause-b
put-requires-clause-b c =
    let basis = basis_in c.args.self.now in
    let are : AreLinksAt basis c.args.point c.at-link-items.result.now = subst (AreLinksAt basis c.args.point) (sym c.at-link-items.ensures) (c.requires.linked.each c.args.point c.requires.point) in
    let within = subst (λ (l : Link). l.below < length basis.program.functions) (sym c.link-item.is) (are.each c.loop-link.link-index c.link-item.result c.loop-link-test.true).below in
    omega (arith, within, c.loop-link.invariant)
