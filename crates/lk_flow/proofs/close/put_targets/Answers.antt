use Rattle.std.proofs.Common.{subst}
use Rattle.std.proofs.lemmas.Result.{IfOk-weaker}
use Rattle.lk_facts.specs.Paths.{opposite}
use Rattle.lk_flow.specs.Closing.{TargetsOf}
use Rattle.lk_flow.specs.Growing.{Adds, Joins}
use Rattle.lk_flow.proofs.Finders.{joins_two}
use Rattle.lk_flow.proofs.close.put_targets.Goals as goal

pub returns : goal.returns
returns c =
    let program = c.args.points.now in
    let names = c.args.labels.now.names in
    let m = c.args.edge.now.mark in
    let mid = c.put_target.new.found in
    let new = c.put_target-2.new.found in
    IfOk-weaker c.put_target-2.result _ _ (λ _ adds u v ends.
    joins_two names (TargetsOf program u v m) (TargetsOf program v u (opposite m)) c.args.found.now mid new (c.in_ok-put_target.ensures u v ends.begins ends.ends)
    (subst (λ n. Adds (Joins names (TargetsOf program v u n)) mid new) c.opposite-back.ensures (adds v u ends.ends ends.begins))) c.put_target-2.ensures
