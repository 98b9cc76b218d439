use Rattle.std.proofs.Common.{◌∙◌, arith, length, sym, subst}
use Rattle.lk_types.proofs.KeptLemmas.{read_got}
use Rattle.lk_link.specs.Sites.{Grows, IsOfAt, IsSiteAt}
use Rattle.lk_link.proofs.Growing.{grows_more, grows_at, grows_all, grows_push}
use Rattle.lk_link.proofs.sites.push_sites.Goals as goal

pub loop-declaration-preserved : goal.loop-declaration-preserved
loop-declaration-preserved c =
    let ds = c.args.declarations.now in
    let n = c.loop-declaration.declaration-index in
    let d = c.declaration-item.result in
    let at = read_got ds n d c.loop-declaration-test.true c.declaration-item.is in
    let old = c.loop-declaration.all.items in
    grows_more (IsOfAt (IsSiteAt c.args.entity) ds) n c.args.all.now.items old c.push.new.self.items c.loop-declaration.invariant
    (grows_at (IsSiteAt c.args.entity) ds n d at old c.push.new.self.items
    (subst (λ new. Grows old new (IsSiteAt c.args.entity d)) (sym c.in_ok-push.ensures.items) (grows_push old c.site_at.result (IsSiteAt c.args.entity d) c.site_at.ensures (λ x is. c.site_at.ensures ∙ sym is))))

pub returns : goal.returns
returns c =
    grows_all (IsOfAt (IsSiteAt c.args.entity) c.args.declarations.now) c.loop-declaration.declaration-index (length c.args.declarations.now) c.args.all.now.items c.loop-declaration.all.items (omega arith) c.loop-declaration.invariant
