-- Equal paths are hashed alike.
use Rattle.std.specs.Hash as fed
use Rattle.std.specs.Hash.{Alike, items_Alike}
use Rattle.lk_base.specs.Steps.{number_of, steps_alike}
use Rattle.lk_values.specs.Paths.{is_path}

pub paths_alike : Alike is_path (fed.slice (λ step. fed.u64 (number_of step)))
paths_alike = items_Alike steps_alike
