use Rattle.std.proofs.Common.{sym, ◌∙◌}
use Rattle.lk_facts.specs.Program.{is_args}
use Rattle.lk_birth.proofs.Loops.{position_after}
use Rattle.lk_birth.proofs.starting.args_root.Goals as goal

pub loop-root-preserved : goal.loop-root-preserved
loop-root-preserved c =
    position_after (λ root. is_args root.kind) c.args.points.now.roots c.loop-root.root c.root.result.now c.root.ensures.value (sym c.is_args.ensures ∙ c.if-is_args.false) ∙ c.loop-root.invariant
