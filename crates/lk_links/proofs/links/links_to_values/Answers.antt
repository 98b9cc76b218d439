use Rattle.std.proofs.Common.{◌≡◌, ap, get_or, sym, ◌∙◌}
use Rattle.lk_facts.specs.Program.{value_site_of}
use Rattle.lk_facts.specs.declared.program.Program.{Program}
use Rattle.lk_links.proofs.LinkLemmas.{used_link, unused_link}
use Rattle.lk_links.proofs.links.links_to_values.Goals as goal
use Rattle.lk_links.proofs.links.links_to_values.Goals.{in-Some+in_ok-push, in_default}

pub loop-below-preserved : goal.loop-below-preserved
loop-below-preserved c =
    elim c.match-value_site.branch [
      | in-Some+in_ok-push w ↦
          used_link c.args.facts.now.program c.args.point c.args.above c.ids-below-items.result.now c.loop-below.below-index c.loop-below-test.true c.loop-below.links.items c.match-value_site.links.items w.in-Some.site
          c.loop-below.invariant (ap (λ (program : Program). value_site_of program (get_or c.ids-below-items.result.now c.loop-below.below-index 0)) (sym c.points.ensures.value) ∙ sym w.in-Some.ensures.value) (ap (λ v. v.items) w.links-is ∙ w.in_ok-push.ensures.items)
      | in_default w ↦
          unused_link c.args.facts.now.program c.args.point c.args.above c.ids-below-items.result.now c.loop-below.below-index c.loop-below-test.true c.loop-below.links.items c.match-value_site.links.items
          c.loop-below.invariant (ap (λ (program : Program). value_site_of program (get_or c.ids-below-items.result.now c.loop-below.below-index 0)) (sym c.points.ensures.value) ∙ sym w.in_default.ensures.value) (ap (λ v. v.items) w.links-is)
    ]
