use Rattle.lk_types.proofs.PathLemmas.{no_path_stands_twice}
use Rattle.lk_types.proofs.laws.no_path_stands_twice.Goals as goal

pub returns : goal.returns
returns c = no_path_stands_twice
