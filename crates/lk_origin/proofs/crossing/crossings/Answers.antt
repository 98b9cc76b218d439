use Rattle.std.proofs.Common.{◌≡◌, ◌<◌, ◌↔◌, All, Contains, subst, arith}
use Rattle.lk_match.specs.declared.passage.Passage.{Passage}
use Rattle.lk_origin.proofs.CrossingLemmas.{Sites, site_more, sites_done, site_within}
use Rattle.lk_origin.proofs.crossing.crossings.Goals as goal

pub crossing-requires : goal.crossing-requires
crossing-requires c =
    let of = subst (λ es. (x : Passage) → Contains c.of_site.result.now x ↔ (Contains es x × (x.site ≡ c.loop-site.site))) c.deref-in-loop-site.ensures.value c.of_site.ensures in
    site_within c.args.edges.now c.args.levels.now.size c.loop-site.site c.in_ok-entrances.entrances.items c.of_site.result.now c.requires c.in_ok-entrances.ensures.each of

pub loop-site-preserved : goal.loop-site-preserved
loop-site-preserved c =
    let of = subst (λ es. (x : Passage) → Contains c.of_site.result.now x ↔ (Contains es x × (x.site ≡ c.loop-site.site))) c.deref-in-loop-site.ensures.value c.of_site.ensures in
    site_more c.of_site.result.now c.loop-site.site c.in_ok-crossing.crossing c.in_ok-push.ensures.items c.in_ok-crossing.ensures.within of c.in_ok-crossing.ensures.each c.loop-site.invariant

pub returns-clause-each : goal.returns-clause-each
returns-clause-each c =
    let entrances = c.in_ok-entrances.entrances.items in
    let full : c.loop-site.site ≡ c.site_count-site-end.result = omega (arith, c.loop-site.auto.site-end) in
    let sites = subst (Sites c.args.levels.now entrances c.loop-site.all.items) full c.loop-site.invariant in
    let few = subst (All (λ (x : Passage). x.site < c.site_count-site-end.result)) c.deref.ensures.value c.site_count-site-end.ensures.each in
    sites_done c.args.edges.now c.args.levels.now entrances c.loop-site.all.items c.site_count-site-end.result c.in_ok-entrances.ensures.each few sites
