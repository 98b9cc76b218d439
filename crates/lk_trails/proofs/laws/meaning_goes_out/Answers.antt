use Rattle.lk_trails.proofs.Meaning.{meaning_goes_out}
use Rattle.lk_trails.proofs.laws.meaning_goes_out.Goals as goal

pub returns : goal.returns
returns c = meaning_goes_out
