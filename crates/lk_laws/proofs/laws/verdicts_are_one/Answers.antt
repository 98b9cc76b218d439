use Rattle.lk_laws.proofs.OneAnalysis.{one_analysis}
use Rattle.lk_laws.proofs.laws.verdicts_are_one.Goals as goal

pub returns : goal.returns
returns c = one_analysis
