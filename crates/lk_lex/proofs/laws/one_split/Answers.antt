use Rattle.lk_lex.proofs.Always.{always_one}
use Rattle.lk_lex.proofs.OneAnswer.{has_one_answer}
use Rattle.lk_lex.proofs.OneSplit.{has_one_list, never_both, has_one_stop}
use Rattle.lk_lex.proofs.laws.one_split.Goals as goal

pub returns-clause-always : goal.returns-clause-always
returns-clause-always c = always_one

pub returns-clause-list : goal.returns-clause-list
returns-clause-list c = has_one_list

pub returns-clause-never_both : goal.returns-clause-never_both
returns-clause-never_both c = never_both

pub returns-clause-stop : goal.returns-clause-stop
returns-clause-stop c = has_one_stop

pub returns-clause-answer : goal.returns-clause-answer
returns-clause-answer c = has_one_answer
