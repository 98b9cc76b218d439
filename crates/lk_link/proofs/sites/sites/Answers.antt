use Rattle.std.proofs.Common.{[], arith, get_or, subst}
use Rattle.std.proofs.lemmas.Option.{slice_get-get_or}
use Rattle.lk_link.specs.Sites.{Grows, IsOfAt, IsOfSome, IsSiteAt}
use Rattle.lk_link.specs.declared.sites.EntityOf.{EntityOf}
use Rattle.lk_link.proofs.Growing.{grows_more}
use Rattle.lk_link.proofs.Naming.{IsSiteFrom, are_sites, known_external, site_grown}
use Rattle.lk_link.proofs.sites.sites.Goals as goal

abbrev none : EntityOf
none = record { source = 0; number = 0 }

pub entity_at-requires : goal.entity_at-requires
entity_at-requires c =
    let es = c.args.externals.now in
    let n = c.loop-entity.entity-index in
    let known = known_external c.args.units.now es n (get_or es n none) c.requires (slice_get-get_or es n none c.loop-entity-test.true) in
    (known.0, known.1.of)

pub loop-entity-preserved : goal.loop-entity-preserved
loop-entity-preserved c =
    let es = c.args.externals.now in
    let n = c.loop-entity.entity-index in
    let old = c.loop-entity.all.items in
    let new = c.push_sites.new.all.items in
    let at = get_or es n none in
    grows_more (IsOfAt (IsSiteFrom c.args.units.now) es) n [] old new c.loop-entity.invariant
    (site_grown c.args.units.now es n at c.entity_at.result.now old new c.requires (slice_get-get_or es n none c.loop-entity-test.true) c.entity_at.ensures
    (subst (λ ds. Grows old new (IsOfSome (IsSiteAt at) ds)) c.list-declarations.ensures c.in_ok-push_sites.ensures))

pub returns : goal.returns
returns c = are_sites c.args.units.now c.args.externals.now c.loop-entity.all.items c.loop-entity.entity-index c.requires (omega arith) c.loop-entity.invariant
