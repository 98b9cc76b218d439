use Rattle.lk_facts.proofs.Numbers.{added}
use Rattle.lk_order.proofs.SameLemmas.{goal_itself, same_goal}
use Rattle.lk_order.proofs.WorkLemmas.{is_missing}
use Rattle.lk_order.proofs.same.learn.Goals as goal

pub returns-clause-keys : goal.returns-clause-keys
returns-clause-keys c =
    added _ same_goal goal_itself c.args.known.now.keys c.insert.new.self.keys c.args.goal (is_missing c.args.known.now.keys c.args.goal c.requires) c.in_ok-insert.ensures.keys
