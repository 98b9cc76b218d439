use Rattle.std.proofs.Common.{◌≡◌, ◌||◌, ◌∷◌, [], ◌∙◌, ap, sym, ⊎_elim, inl, inr}
use Rattle.std.proofs.lemmas.Bool.{false≢true, or_cases, or_left, or_right}
use Rattle.lk_links.proofs.SetLemmas.{has_id-one}
use Rattle.lk_sets.proofs.Rising.{has_id-append}
use Rattle.lk_sets.specs.Ids.{has_id}
use Rattle.lk_order.proofs.acts.Acts.put_kept.Goals as goal

pub returns-then-branch : goal.returns-then-branch
returns-then-branch c = λ y. (λ there. inl there, λ either. ⊎_elim (λ there. there) (λ kept. absurd (kept.0 (c.in_ok-drops.ensures.0 c.if-branch.true))) either)

pub returns : goal.returns
returns c = λ y.
    let x = c.args.x in
    let parts : has_id c.push.new.self.items y ≡ (has_id c.args.ids.now.items y || has_id (x ∷ []) y) = ap (λ ids. has_id ids y) c.in_ok-push.ensures.items ∙ has_id-append c.args.ids.now.items (x ∷ []) y in (
      λ there.
          ⊎_elim (λ before. inl before) (λ now. inr (λ drops. false≢true (sym c.if-branch.false ∙ c.in_ok-drops.ensures.1 drops), (has_id-one x y).0 now)) (or_cases (has_id c.args.ids.now.items y) (has_id (x ∷ []) y) (sym parts ∙ there)),
      λ either. parts ∙ ⊎_elim (λ before. or_left _ _ before) (λ kept. or_right (has_id c.args.ids.now.items y) _ ((has_id-one x y).1 kept.1)) either,
    )
