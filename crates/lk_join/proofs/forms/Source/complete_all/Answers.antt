use Rattle.std.proofs.Common.{◌≡◌, ◌<◌, arith, length, subst}
use Rattle.lk_join.specs.Completing.{AreCompleted}
use Rattle.lk_join.proofs.Carrying.{all_before}
use Rattle.lk_join.proofs.Completed.{completed_more, gives_same, gives_then}
use Rattle.lk_join.proofs.Stepping.{below_bound}
use Rattle.lk_join.proofs.forms.Source.complete_all.Goals as goal

pub loop-s-init : goal.loop-s-init
loop-s-init c = (gives_same c.args.self.now.types.now c.args.self.now.structs.now c.args.row.now c.args.table.now, λ a less. absurd (omega (arith, less)), c.requires.joining)

pub loop-s-preserved : goal.loop-s-preserved
loop-s-preserved c =
    let types = c.args.self.now.types.now in
    let structs = c.args.self.now.structs.now in
    let before = c.loop-s.table in
    let after = c.complete.new.table in
    let gives = c.in_ok-complete.ensures.gives in (
      gives_then types structs c.args.row.now c.args.table.now before after c.loop-s.invariant.0 gives,
      completed_more types structs before after gives.longer c.loop-s.s c.loop-s.invariant.1 c.in_ok-complete.ensures.completed,
      c.in_ok-complete.ensures.joining,
    )

pub returns-clause-completed : goal.returns-clause-completed
returns-clause-completed c =
    let types = c.args.self.now.types.now in
    let whole : c.loop-s.s ≡ length types.members = omega arith in
    subst (AreCompleted types c.args.self.now.structs.now c.loop-s.table) whole c.loop-s.invariant.1

pub complete-requires-clause-before : goal.complete-requires-clause-before
complete-requires-clause-before c = λ shut. all_before c.args.self.now.types.now c.requires.joining.source c.loop-s.s _ c.requires.whole shut

pub complete-requires-clause-steps : goal.complete-requires-clause-steps
complete-requires-clause-steps c =
    let types = c.args.self.now.types.now in
    let known : c.loop-s.s < length types.members = let below = c.loop-s-test.true in omega arith in
    below_bound types c.requires.joining.source.table_is c.loop-s.s known c.args.self.now.all_members
