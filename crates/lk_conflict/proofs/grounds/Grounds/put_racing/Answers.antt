use Rattle.std.proofs.Common.{◌≡◌, ◌↔◌, ◌⊎◌, ◌∙◌, true, Contains, sym, subst, ⊎_elim, inl, inr}
use Rattle.std.proofs.lemmas.Bool.{both_ways}
use Rattle.lk_sets.specs.Rows.{has}
use Rattle.lk_conflict.specs.Kinds.{is_in_conflict}
use Rattle.lk_conflict.proofs.KindLemmas.{kind_put}
use Rattle.lk_conflict.proofs.grounds.Grounds.put_racing.Goals as goal

pub returns-then-not-is_in_conflict : goal.returns-then-not-is_in_conflict
returns-then-not-is_in_conflict c = λ k. (
  λ there. inl there,
  λ either. ⊎_elim (λ there. there) (λ now. absurd (both_ways c.is_in_conflict.result c.if-not-is_in_conflict.true (c.is_in_conflict.ensures ∙ now.1))) either,
)

pub returns : goal.returns
returns c = λ k.
    let conflict : is_in_conflict (has c.args.self.now.after.now) c.args.kinds.now c.args.kind ≡ true = sym c.is_in_conflict.ensures ∙ c.if-not-is_in_conflict.false in
    let put = subst (λ ks. Contains ks k ↔ (Contains c.args.racing.now.keys k ⊎ (k ≡ c.args.kind))) (sym c.in_ok-insert.ensures.keys) (kind_put c.args.racing.now.keys c.args.kind k) in (
      λ there. ⊎_elim (λ before. inl before) (λ same. inr (same, conflict)) (put.0 there),
      λ either. put.1 (⊎_elim (λ before. inl before) (λ now. inr now.0) either),
    )
