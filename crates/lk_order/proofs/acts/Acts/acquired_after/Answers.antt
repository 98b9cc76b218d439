use Rattle.std.proofs.Common.{◌≡◌, ◌<◌, ◌∙◌, [], All, true, length, get_or, sym, subst, ⊎_elim, inl, inr, arith}
use Rattle.std.proofs.lemmas.Bool.{or_cases, or_left, or_right}
use Rattle.std.proofs.lemmas.List.{get_or_read}
use Rattle.lk_links.proofs.SetLemmas.{All-from_has_id, All-has_id}
use Rattle.lk_sets.specs.Ids.{has_id}
use Rattle.lk_order.proofs.acts.Acts.acquired_after.Goals as goal

pub kept-requires-clause-labels : goal.kept-requires-clause-labels
kept-requires-clause-labels c =
    let self = c.args.self.now in
    let within : c.args.point < length c.args.acquired.now = omega (arith, c.requires.point, c.requires.sets.all) in
    let held = c.ids.ensures.list ∙ get_or_read c.args.acquired.now c.args.point c.index-acquired-point.result within c.index-acquired-point.is [] in
    subst (All (λ x. x < length self.labels.now.entries)) (sym held) (c.requires.sets.below.each c.args.point [] within).below

pub returns-clause-members : goal.returns-clause-members
returns-clause-members c = λ x.
    let within : c.args.point < length c.args.acquired.now = omega (arith, c.requires.point, c.requires.sets.all) in
    let held : c.ids.result.now ≡ get_or c.args.acquired.now c.args.point [] = c.ids.ensures.list ∙ get_or_read c.args.acquired.now c.args.point c.index-acquired-point.result within c.index-acquired-point.is [] in
    let kept = c.in_ok-kept.ensures.members x in
    let more = c.in_ok-more.ensures.members x in (
      λ there.
          ⊎_elim (λ old. let both = kept.0 old in inl (subst (λ ids. has_id ids x ≡ true) held both.0, both.1)) (λ new. inr (more.0 new)) (or_cases (has_id c.in_ok-kept.kept x) (has_id c.in_ok-more.more x) (sym (c.in_ok-after.ensures.members x) ∙ there)),
      λ after.
          c.in_ok-after.ensures.members x
          ∙ ⊎_elim (λ both. or_left _ _ (kept.1 (subst (λ ids. has_id ids x ≡ true) (sym held) both.0, both.1))) (λ gives. or_right (has_id c.in_ok-kept.kept x) _ (more.1 gives)) after,
    )

pub returns-clause-in_range : goal.returns-clause-in_range
returns-clause-in_range c =
    let few = length c.args.self.now.labels.now.entries in
    let within : c.args.point < length c.args.acquired.now = omega (arith, c.requires.point, c.requires.sets.all) in
    let held : c.ids.result.now ≡ get_or c.args.acquired.now c.args.point [] = c.ids.ensures.list ∙ get_or_read c.args.acquired.now c.args.point c.index-acquired-point.result within c.index-acquired-point.is [] in
    All-from_has_id (λ x. x < few) c.in_ok-after.after (λ x there.
    ⊎_elim
    (λ old. All-has_id (λ y. y < few) (get_or c.args.acquired.now c.args.point []) x (c.requires.sets.below.each c.args.point [] within).below (subst (λ ids. has_id ids x ≡ true) held ((c.in_ok-kept.ensures.members x).0 old).0))
    (λ new. All-has_id (λ y. y < few) c.in_ok-more.more x c.in_ok-more.ensures.in_range new)
    (or_cases (has_id c.in_ok-kept.kept x) (has_id c.in_ok-more.more x) (sym (c.in_ok-after.ensures.members x) ∙ there)))
