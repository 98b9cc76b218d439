use Rattle.std.proofs.Common.{◌≡◌, ◌∙◌, true, ap, sym, subst}
use Rattle.lk_types.specs.Sizes.{is_over, with_part, with_types}
use Rattle.lk_types.proofs.KeptLemmas.{read_got}
use Rattle.lk_types.proofs.SizeLemmas.{step_size, step_large, all_taken}
use Rattle.lk_types.proofs.table.TypeTable.with_fields.Goals as goal

pub loop-t-preserved : goal.loop-t-preserved
loop-t-preserved c =
    let ts = c.args.types.now in
    let i = c.loop-t.t-index in
    let at = read_got ts i c.t-item.result c.loop-t-test.true c.t-item.is in (
      c.in-Some.ensures.0 ∙ ap (with_part c.loop-t.larger) c.size.ensures.value ∙ step_size c.args.self.now c.args.size ts i c.t-item.result c.loop-t.larger at c.loop-t.invariant.0,
      ap is_over c.in-Some.ensures.0 ∙ c.in-Some.ensures.1,
    )

pub returns-in-None : goal.returns-in-None
returns-in-None c =
    let ts = c.args.types.now in
    let i = c.loop-t.t-index in
    let at = read_got ts i c.t-item.result c.loop-t-test.true c.t-item.is in
    step_large c.args.self.now c.args.size ts i c.t-item.result c.loop-t.larger at c.loop-t.invariant.0
    (subst (λ p. is_over (with_part c.loop-t.larger p) ≡ true) c.size.ensures.value c.in-None.ensures)

pub returns : goal.returns
returns c =
    let ts = c.args.types.now in
    let is = c.loop-t.invariant.0 ∙ ap (with_types c.args.self.now c.args.size) (all_taken ts c.loop-t.t-index c.loop-t-test.false) in
    (is, sym (ap is_over is) ∙ c.loop-t.invariant.1)
