use Rattle.std.proofs.Common.{◌≡◌, [], Some, sym, arith, ap, subst, length}
use Rattle.std.specs.List.{slice_get}
use Rattle.std.specs.Prelude.{All}
use Rattle.lk_types.proofs.KeptLemmas.{read_got}
use Rattle.lk_link.specs.Differing.{IsDifferentAt, type_at}
use Rattle.lk_link.specs.Sites.{Grows, IsOfBelow, IsOfAt}
use Rattle.lk_link.specs.Sources.{IsTypeOf}
use Rattle.lk_link.proofs.Differing.{IsDifferentIn, all_different, group_types, site_type}
use Rattle.lk_link.proofs.Growing.{grows_more, grows_none}
use Rattle.lk_link.proofs.Naming.{known_entity, site_named}
use Rattle.lk_link.proofs.Placing.{IsNamedClash, named_grown}
use Rattle.lk_link.proofs.differ.types_differ.Goals as goal

pub loop-site-init : goal.loop-site-init
loop-site-init c =
    subst (λ new. Grows [] new (IsOfBelow (IsOfAt (IsNamedClash c.args.units.now (IsDifferentIn c.args.units.now c.args.names.now)) c.args.names.now.sites) 0)) (sym c.new-clashes.ensures.items)
    (grows_none (IsOfAt (IsNamedClash c.args.units.now (IsDifferentIn c.args.units.now c.args.names.now)) c.args.names.now.sites) [])

pub entity_at-requires : goal.entity_at-requires
entity_at-requires c =
    let n = c.loop-site.site-index in
    let site = c.site-item.result in
    let at = read_got c.sites-site-items.result.now n site c.loop-site-test.true c.site-item.is in
    known_entity c.args.units.now c.args.names.now.sites n site c.requires.names.sites (subst (λ xs. slice_get xs n ≡ Some site) c.sites-site-items.ensures at)

pub push_different-requires-clause-first : goal.push_different-requires-clause-first
push_different-requires-clause-first c =
    subst (All (λ other. IsTypeOf c.args.units.now (type_at other))) (sym c.group.ensures) (group_types c.args.units.now c.args.names.now c.requires.names c.requires.sources c.entity_at.result.now.name)

pub push_different-requires-clause-second : goal.push_different-requires-clause-second
push_different-requires-clause-second c =
    let n = c.loop-site.site-index in
    let site = c.site-item.result in
    let at = subst (λ xs. slice_get xs n ≡ Some site) c.sites-site-items.ensures (read_got c.sites-site-items.result.now n site c.loop-site-test.true c.site-item.is) in
    site_type c.args.units.now c.requires.sources c.entity_at.result.now.name site (site_named c.args.units.now c.args.names.now.sites n site c.entity_at.result.now c.requires.names.sites at c.entity_at.ensures)

pub loop-site-preserved : goal.loop-site-preserved
loop-site-preserved c =
    let units = c.args.units.now in
    let names = c.args.names.now in
    let n = c.loop-site.site-index in
    let site = c.site-item.result in
    let at = subst (λ xs. slice_get xs n ≡ Some site) c.sites-site-items.ensures (read_got c.sites-site-items.result.now n site c.loop-site-test.true c.site-item.is) in
    let old = c.loop-site.clashes.items in
    let new = c.push_different.new.clashes.items in
    let name = c.entity_at.result.now.name in
    grows_more (IsOfAt (IsNamedClash units (IsDifferentIn units names)) names.sites) n [] old new c.loop-site.invariant
    (named_grown units names.sites c.requires.names.sites (IsDifferentIn units names) n site c.entity_at.result.now at c.entity_at.ensures old new
    (subst (λ group. Grows old new (IsDifferentAt units name group site)) c.group.ensures c.in_ok-push_different.ensures))

pub returns : goal.returns
returns c =
    let count = ap length c.sites-site-items.ensures in
    all_different c.args.units.now c.args.names.now c.requires.names c.loop-site.clashes.items c.loop-site.site-index (omega (arith, count)) c.loop-site.invariant
