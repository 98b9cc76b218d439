use Rattle.lk_meaning.proofs.LawLemmas.{each_one}
use Rattle.lk_meaning.proofs.laws.each_thread_has_one_fate.Goals as goal

pub returns : goal.returns
returns c = each_one
