use Rattle.lk_facts.proofs.Numbers.{contains}
use Rattle.lk_order.proofs.SameLemmas.{goal_itself, same_goal}
use Rattle.lk_order.proofs.same.is_known.Goals as goal

pub returns : goal.returns
returns c = contains _ same_goal goal_itself c.args.known.now.keys c.args.goal c.contains.result c.contains.ensures
