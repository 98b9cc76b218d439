use Rattle.std.proofs.Common.{length, ◌∙◌, ap, sym}
use Rattle.std.proofs.lemmas.Option.{same_Some}
use Rattle.lk_facts.specs.Lowered.{ways_of}
use Rattle.lk_point_ways.proofs.going.has_its_ways.Goals as goal

pub returns-else-p-exit : goal.returns-else-p-exit
returns-else-p-exit c =
    let program = c.args.points.now in (
      (λ holds e action at is apart.
          ap length (sym c.next.ensures.value) ∙ c.has_ways.ensures.0 holds ∙ ap ways_of (same_Some _ _ (sym c.action.ensures.value ∙ at))),
      (λ keeps.
          c.has_ways.ensures.1 (ap length c.next.ensures.value ∙ keeps c.exit.result c.action.result.now c.action.ensures.value c.exit.ensures.value (λ same. c.if-p-exit.false same))),
    )
