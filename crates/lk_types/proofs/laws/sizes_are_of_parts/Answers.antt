use Rattle.lk_types.proofs.Fuel.{sizes_are_of_parts}
use Rattle.lk_types.proofs.laws.sizes_are_of_parts.Goals as goal

pub returns : goal.returns
returns c = sizes_are_of_parts
