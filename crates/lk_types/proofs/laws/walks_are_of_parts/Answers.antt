use Rattle.lk_types.proofs.Fuel.{walks_are_of_parts}
use Rattle.lk_types.proofs.laws.walks_are_of_parts.Goals as goal

pub returns : goal.returns
returns c = walks_are_of_parts
