use Rattle.std.proofs.Common.{◌≡◌, ◌↔◌, ◌⊎◌, ◌∙◌, Contains, sym, ap, subst}
use Rattle.std.proofs.lemmas.List.{take_all}
use Rattle.indexmap.specs.IndexSet.{insert_key}
use Rattle.lk_conflict.specs.Kinds.{HasKind, is_kind, kind_of}
use Rattle.lk_conflict.proofs.KindLemmas.{has_kind_more, kind_put}
use Rattle.lk_conflict.proofs.grounds.Grounds.kinds.Goals as goal
use Rattle.lk_rise.proofs.ListLemmas.{none_there}

pub loop-item-init : goal.loop-item-init
loop-item-init c = λ k. (
  λ there. absurd (none_there k (subst (λ ks. Contains ks k) c.new-kinds.ensures.empty there)),
  λ found. absurd (none_there found.0 found.1),
)

pub loop-item-preserved : goal.loop-item-preserved
loop-item-preserved c =
    let program = c.args.self.now.items.now.facts.program in
    let item = c.item-item.result in
    let old = c.loop-item.kinds.keys in
    let new : c.insert.new.self.keys ≡ insert_key is_kind old (kind_of program item) = c.in_ok-insert.ensures.keys ∙ ap (insert_key is_kind old) c.kind.ensures in
    has_kind_more program c.args.items.now c.loop-item.item-index item old c.insert.new.self.keys c.loop-item-test.true c.item-item.is c.loop-item.invariant
    (λ x. subst (λ ks. Contains ks x ↔ (Contains old x ⊎ (x ≡ kind_of program item))) (sym new) (kind_put old (kind_of program item) x))

pub returns : goal.returns
returns c = λ k.
    let program = c.args.self.now.items.now.facts.program in
    subst (λ items. Contains c.loop-item.kinds.keys k ↔ HasKind program items k) (take_all c.loop-item.item-index c.args.items.now c.loop-item-test.false) (c.loop-item.invariant k)
