use Rattle.std.proofs.Common.{◌∙◌, ◌+◌, drop, refl, ap, sym}
use Rattle.std.proofs.lemmas.Option.{none-some}
use Rattle.std.proofs.lemmas.Result.{IfOk-weaker}
use Rattle.lk_elab_init.specs.Places.{first_cell, next_cell}
use Rattle.lk_elab_init.proofs.Giving.{next_left}
use Rattle.lk_elab_init.proofs.Putting.{absent_here, if_both, walks_on, walks_to_last}
use Rattle.lk_elab_init.proofs.advancing.first_absent.Goals as goal

pub returns-then-not-are_same_paths : goal.returns-then-not-are_same_paths
returns-then-not-are_same_paths c =
    let named = c.args.named.now in
    IfOk-weaker c.unnamed.result _ _ (λ r h. absent_here c.args.way.now c.loop-other.cell named (drop c.loop-other.other-index named) r h.0 h.1 c.loop-other.invariant)
    (if_both _ _ c.unnamed.result c.unnamed.ensures.value c.unnamed.ensures.unnamed)

pub returns-in-None : goal.returns-in-None
returns-in-None c =
    let named = c.args.named.now in
    let way = c.args.way.now in
    let k = c.loop-other.other-index in
    let same = sym c.list.ensures ∙ (c.if-not-are_same_paths.ensures.0 refl ∙ c.list-in-loop-other.ensures) in
    let none = sym (ap (next_cell way) c.list-in-loop-other-2.ensures) ∙ (sym c.in_ok-next.ensures ∙ c.in-None.is) in
    record {
      walks = walks_to_last way c.loop-other.cell c.other-item.result (first_cell way) named (drop k named) (drop (k + 1) named)
          (next_left named k c.other-item.result c.loop-other-test.true c.other-item.is) same none c.loop-other.invariant;
      unnamed = λ cell is there. none-some cell is;
    }

pub loop-other-preserved : goal.loop-other-preserved
loop-other-preserved c =
    let named = c.args.named.now in
    let way = c.args.way.now in
    let k = c.loop-other.other-index in
    let same = sym c.list.ensures ∙ (c.if-not-are_same_paths.ensures.0 refl ∙ c.list-in-loop-other.ensures) in
    let next = sym (ap (next_cell way) c.list-in-loop-other-2.ensures) ∙ (sym c.in_ok-next.ensures ∙ c.in-Some.is) in
    walks_on way c.loop-other.cell c.other-item.result c.in-Some.next (first_cell way) named (drop k named) (drop (k + 1) named)
    (next_left named k c.other-item.result c.loop-other-test.true c.other-item.is) same next c.loop-other.invariant

pub returns : goal.returns
returns c =
    let named = c.args.named.now in
    IfOk-weaker c.unnamed-2.result _ _ (λ r h. absent_here c.args.way.now c.loop-other.cell named (drop c.loop-other.other-index named) r h.0 h.1 c.loop-other.invariant)
    (if_both _ _ c.unnamed-2.result c.unnamed-2.ensures.value c.unnamed-2.ensures.unnamed)
