use Rattle.std.proofs.Common.{arith, sym, subst}
use Rattle.lk_types.proofs.KeptLemmas.{read_got}
use Rattle.lk_link.specs.Sites.{AreGroups}
use Rattle.lk_link.proofs.Naming.{IsNamedBelow, no_groups, groups_more, groups_all, known_entity, site_named}
use Rattle.lk_link.proofs.groups.Groups.of.Goals as goal

pub loop-site-init : goal.loop-site-init
loop-site-init c = subst (AreGroups (IsNamedBelow c.args.units.now c.args.sites.now 0)) (sym c.new-groups.ensures) (no_groups c.args.units.now c.args.sites.now)

pub entity_at-requires : goal.entity_at-requires
entity_at-requires c =
    let sites = c.args.sites.now in
    let n = c.loop-site.site-index in
    known_entity c.args.units.now sites n c.site-item.result c.requires (read_got sites n c.site-item.result c.loop-site-test.true c.site-item.is)

pub loop-site-preserved : goal.loop-site-preserved
loop-site-preserved c =
    let units = c.args.units.now in
    let sites = c.args.sites.now in
    let n = c.loop-site.site-index in
    let site = c.site-item.result in
    let at = read_got sites n site c.loop-site-test.true c.site-item.is in
    groups_more units sites c.loop-site.groups c.add.new.self n site c.entity_at.result.now.name at (site_named units sites n site c.entity_at.result.now c.requires at c.entity_at.ensures) c.in_ok-add.ensures c.loop-site.invariant

pub returns : goal.returns
returns c = groups_all c.args.units.now c.args.sites.now c.loop-site.groups c.loop-site.site-index c.requires (omega arith) c.loop-site.invariant
