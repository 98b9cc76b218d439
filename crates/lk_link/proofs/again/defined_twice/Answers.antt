use Rattle.std.proofs.Common.{◌≡◌, [], Some, sym, arith, ap, subst, length}
use Rattle.std.specs.List.{slice_get}
use Rattle.lk_types.proofs.KeptLemmas.{read_got}
use Rattle.lk_link.specs.Sites.{Grows, IsAgainAt, IsOfBelow, IsOfAt}
use Rattle.lk_link.proofs.Growing.{grows_more, grows_none}
use Rattle.lk_link.proofs.Naming.{known_entity}
use Rattle.lk_link.proofs.Placing.{IsNamedClash, named_grown}
use Rattle.lk_link.proofs.Redefining.{IsAgainIn, all_twice}
use Rattle.lk_link.proofs.again.defined_twice.Goals as goal

pub loop-site-init : goal.loop-site-init
loop-site-init c =
    subst (λ new. Grows [] new (IsOfBelow (IsOfAt (IsNamedClash c.args.units.now (IsAgainIn c.args.names.now)) c.args.names.now.sites) 0)) (sym c.new-clashes.ensures.items)
    (grows_none (IsOfAt (IsNamedClash c.args.units.now (IsAgainIn c.args.names.now)) c.args.names.now.sites) [])

pub entity_at-requires : goal.entity_at-requires
entity_at-requires c =
    let all = c.sites-site-items.result.now in
    let n = c.loop-site.site-index in
    let site = c.site-item.result in
    let at = read_got all n site c.loop-site-test.true c.site-item.is in
    known_entity c.args.units.now c.args.names.now.sites n site c.requires.sites (subst (λ xs. slice_get xs n ≡ Some site) c.sites-site-items.ensures at)

pub loop-site-preserved : goal.loop-site-preserved
loop-site-preserved c =
    let units = c.args.units.now in
    let names = c.args.names.now in
    let n = c.loop-site.site-index in
    let site = c.site-item.result in
    let at = subst (λ xs. slice_get xs n ≡ Some site) c.sites-site-items.ensures (read_got c.sites-site-items.result.now n site c.loop-site-test.true c.site-item.is) in
    let old = c.loop-site.clashes.items in
    let new = c.push_again.new.clashes.items in
    let name = c.entity_at.result.now.name in
    grows_more (IsOfAt (IsNamedClash units (IsAgainIn names)) names.sites) n [] old new c.loop-site.invariant
    (named_grown units names.sites c.requires.sites (IsAgainIn names) n site c.entity_at.result.now at c.entity_at.ensures old new
    (subst (λ group. Grows old new (IsAgainAt name group site)) c.group.ensures c.in_ok-push_again.ensures))

pub returns : goal.returns
returns c =
    let count = ap length c.sites-site-items.ensures in
    all_twice c.args.units.now c.args.names.now c.requires c.loop-site.clashes.items c.loop-site.site-index (omega (arith, count)) c.loop-site.invariant
