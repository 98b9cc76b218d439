use Rattle.lk_lex.proofs.Tables.{keywords_are_read, punctuators_are_read}
use Rattle.lk_lex.proofs.laws.spellings.Goals as goal

pub returns-clause-keywords : goal.returns-clause-keywords
returns-clause-keywords c = keywords_are_read

pub returns-clause-punctuators : goal.returns-clause-punctuators
returns-clause-punctuators c = punctuators_are_read
