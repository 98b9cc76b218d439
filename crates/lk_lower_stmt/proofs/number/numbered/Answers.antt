use Rattle.std.proofs.Common.{rules, ◌≡◌, ◌++◌, length, [], ◌∷◌}
use Rattle.lk_lower_expr.specs.Initialisers.{comes_to}
use Rattle.lk_lower_expr.specs.Naming.{at_of}
use Rattle.lk_lower_expr.specs.Parts.{step}
use Rattle.lk_lower_stmt.proofs.Deeds.{one_more}
use Rattle.lk_lower_stmt.proofs.number.numbered.Goals as goal

pub loop-deed-preserved : goal.loop-deed-preserved
loop-deed-preserved c = one_more (at_of c.args.source.now.names.now c.args.local.now.ordinal) c.args.local.now.spot _ _ _ _ _ _ _ _ c.loop-deed.invariant popped goes pushed
  where
    popped : c.loop-deed.left.items ≡ c.pop.new.self.items ++ (c.in-Some.deed ∷ [])
    popped = search rules

    goes : c.unwrap_or-next.result ≡ comes_to (at_of c.args.source.now.names.now c.args.local.now.ordinal) (length c.pop.new.self.items) c.in-Some.deed
    goes = search rules

    pushed : c.push.new.self.items ≡ c.loop-deed.steps.items ++ (step c.in-Some.deed.does c.in-Some.deed.gives c.args.local.now.spot c.loop-deed.next ∷ [])
    pushed = search rules
