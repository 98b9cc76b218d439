use Rattle.std.proofs.Common.{ap, sym, ◌∙◌, arith}
use Rattle.lk_sets.specs.Ids.{has_id}
use Rattle.lk_held.proofs.HoldLemmas.{entries_more, entry_within}
use Rattle.lk_order.proofs.acts.Acts.entries.Goals as goal

pub loop-function-preserved : goal.loop-function-preserved
loop-function-preserved c = entries_more c.args.self.now.points.now c.loop-function.function c.entry.result c.loop-function.ids.items c.push.new.self.items c.entry.ensures.value c.in_ok-push.ensures.items c.loop-function.invariant

pub returns : goal.returns
returns c = λ p.
    let same = c.in_ok-entries.ensures.members p ∙ ap (λ s. has_id s p) c.deref.ensures.value in
    let here = c.loop-function.invariant p in (
      λ there. let found = here.0 (sym same ∙ there) in (found.0, found.2),
      λ found. same ∙ here.1 (found.0, omega (arith, entry_within c.args.self.now.points.now found.0 p found.1, c.functions-function-end.ensures), found.1),
    )
