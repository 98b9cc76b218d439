use Rattle.std.proofs.Common.{subst, sym}
use Rattle.std.proofs.lemmas.Result.{IfOk-weaker}
use Rattle.lk_facts.specs.EdgeRules.{Row}
use Rattle.lk_facts.specs.declared.action.Action.TheVariants.{Index}
use Rattle.lk_flow.specs.Growing.{Adds, Joins}
use Rattle.lk_flow.proofs.actions.put_index.Goals as goal

pub returns-then-into : goal.returns-then-into
returns-then-into c =
    IfOk-weaker c.put_part.result _ _ (λ _ adds f b. subst (λ into. Adds (Joins c.args.labels.now.names (Row c.args.points.now c.args.p f (Index c.args.a b into))) c.args.found.now c.put_part.new.found) (sym c.if-into.true) adds) c.put_part.ensures

pub returns : goal.returns
returns c =
    IfOk-weaker c.put_sub.result _ _ (λ _ adds f b. subst (λ into. Adds (Joins c.args.labels.now.names (Row c.args.points.now c.args.p f (Index c.args.a b into))) c.args.found.now c.put_sub.new.found) (sym c.if-into.false) adds) c.put_sub.ensures
