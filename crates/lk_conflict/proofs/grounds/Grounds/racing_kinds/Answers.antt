use Rattle.std.proofs.Common.{◌∙◌, List, All, sym, subst}
use Rattle.std.proofs.lemmas.List.{take_all}
use Rattle.lk_sets.specs.Rows.{has}
use Rattle.lk_conflict.specs.Kinds.{IsKindInRange}
use Rattle.lk_conflict.specs.declared.pairs.Kind.{Kind}
use Rattle.lk_conflict.proofs.KindLemmas.{AreRacingAmong, kinds_within, racing_next, racing_none, racing_of}
use Rattle.lk_conflict.proofs.grounds.Grounds.racing_kinds.Goals as goal

pub loop-kind-init : goal.loop-kind-init
loop-kind-init c = racing_none (has c.args.self.now.after.now) c.as_slice-kind-items.result.now c.new-racing.result.keys c.new-racing.ensures.empty

pub put_racing-requires-clause-kind : goal.put_racing-requires-clause-kind
put_racing-requires-clause-kind c =
    let facts = c.args.self.now.items.now.facts in
    let keys = c.in_ok-kinds.kinds.keys in
    let list = c.as_slice-kind-items.result.now in
    let all : All (IsKindInRange facts.program) list =
    subst (All (IsKindInRange facts.program)) (sym c.as_slice-kind-items.ensures.keys) (kinds_within facts c.args.items.now keys c.requires c.in_ok-kinds.ensures) in
    all c.loop-kind.kind-index _ c.loop-kind-test.true

pub put_racing-requires-clause-kinds : goal.put_racing-requires-clause-kinds
put_racing-requires-clause-kinds c =
    let facts = c.args.self.now.items.now.facts in
    subst (All (IsKindInRange facts.program)) (sym c.as_slice.ensures.keys) (kinds_within facts c.args.items.now c.in_ok-kinds.kinds.keys c.requires c.in_ok-kinds.ensures)

pub loop-kind-preserved : goal.loop-kind-preserved
loop-kind-preserved c =
    let list = c.as_slice-kind-items.result.now in
    racing_next (has c.args.self.now.after.now) list c.as_slice.result.now c.loop-kind.kind-index _ c.loop-kind.racing.keys c.put_racing.new.racing.keys c.loop-kind-test.true
    (c.as_slice.ensures.keys ∙ sym c.as_slice-kind-items.ensures.keys) c.loop-kind.invariant c.in_ok-put_racing.ensures

pub returns : goal.returns
returns c =
    let after = has c.args.self.now.after.now in
    let list = c.as_slice-kind-items.result.now in
    let keys = c.in_ok-kinds.kinds.keys in
    let race : AreRacingAmong after keys keys c.loop-kind.racing.keys =
    subst (λ (ks : List Kind). AreRacingAmong after ks ks c.loop-kind.racing.keys) c.as_slice-kind-items.ensures.keys
    (subst (λ (ks : List Kind). AreRacingAmong after list ks c.loop-kind.racing.keys) (take_all c.loop-kind.kind-index list c.loop-kind-test.false) c.loop-kind.invariant) in
    racing_of c.args.self.now.items.now.facts.program after c.args.items.now keys c.loop-kind.racing.keys c.in_ok-kinds.ensures race
