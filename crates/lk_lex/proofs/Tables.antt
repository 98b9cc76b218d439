-- The spelling of each keyword and of each punctuator is read as that one.
use Rattle.std.proofs.Common.{refl}
use Rattle.lk_lex.specs.declared.keyword.Keyword.TheVariants as w
use Rattle.lk_lex.specs.declared.punct.Punct.TheVariants as p
use Rattle.lk_lex.specs.Front.{cut, piece, word_front, punct_front}
use Rattle.lk_lex.specs.Laws.{KeywordsAreRead, PunctuatorsAreRead}
use Rattle.lk_lex.specs.Punctuators.{punct_in_front}
use Rattle.lk_lex.specs.Words.{keyword_of}

pub keywords_are_read : KeywordsAreRead
unfolding cut piece word_front keyword_of
keywords_are_read fresh w.Auto = refl
keywords_are_read fresh _ = refl

pub punctuators_are_read : PunctuatorsAreRead
unfolding cut piece punct_front punct_in_front
punctuators_are_read fresh p.Comma = refl
punctuators_are_read fresh _ = refl
