use Rattle.std.proofs.Common.{◌≡◌, ◌∙◌, ap, sym, subst}
use Rattle.std.proofs.lemmas.Bool.{false≢true, false_from_ne_true, not-true, not_from_false}
use Rattle.std.proofs.lemmas.Option.{same_Some}
use Rattle.lk_facts.specs.Reach.{IsNext}
use Rattle.lk_facts.specs.Program.{next_of}
use Rattle.lk_sets.specs.Ids.{has_id}
use Rattle.lk_point_ways.proofs.going.avoids_entry.Goals as goal

pub returns : goal.returns
returns c =
    let program = c.args.points.now in
    let is : c.contains.result ≡ has_id (next_of program c.args.p) c.entry.result = c.contains.ensures.value ∙ ap (λ ids. has_id ids c.entry.result) c.next.ensures.value in (
      (λ holds e at next. false≢true (sym (not-true _ holds) ∙ (is ∙ subst (λ q. IsNext program c.args.p q) (same_Some _ _ (sym at ∙ c.entry.ensures.value)) next))),
      (λ keeps. not_from_false _ (false_from_ne_true _ (λ has. keeps c.entry.result c.entry.ensures.value (sym is ∙ has)))),
    )
