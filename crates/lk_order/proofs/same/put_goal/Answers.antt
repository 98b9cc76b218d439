use Rattle.lk_order.proofs.SameLemmas.{goal_itself, same_goal}
use Rattle.lk_order.proofs.WorkLemmas.{finds_put}
use Rattle.lk_order.proofs.same.put_goal.Goals as goal

pub returns : goal.returns
returns c = finds_put _ same_goal goal_itself c.args.goals.now.keys c.insert.new.self.keys c.args.goal c.in_ok-insert.ensures.keys
