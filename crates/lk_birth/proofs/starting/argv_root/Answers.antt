use Rattle.std.proofs.Common.{sym, ◌∙◌}
use Rattle.lk_facts.specs.Program.{is_argv}
use Rattle.lk_birth.proofs.Loops.{position_after}
use Rattle.lk_birth.proofs.starting.argv_root.Goals as goal

pub loop-root-preserved : goal.loop-root-preserved
loop-root-preserved c =
    position_after (λ root. is_argv root.kind) c.args.points.now.roots c.loop-root.root c.root.result.now c.root.ensures.value (sym c.is_argv.ensures ∙ c.if-is_argv.false) ∙ c.loop-root.invariant
