use Rattle.std.proofs.Common.{◌∙◌, ap}
use Rattle.lk_names.specs.InScope.{env_in}
use Rattle.lk_check_unit.specs.Writing.{word_given}
use Rattle.lk_check_unit.proofs.Alone.{word_is}
use Rattle.lk_check_unit.proofs.words.word_type.Goals as goal

pub returns-in-Word-clause-word : goal.returns-in-Word-clause-word
returns-in-Word-clause-word c = λ table rest.
    c.declared_word.ensures.word table ∙ (ap word_given (c.look_up.ensures.env table rest) ∙ word_is c.args.e.now c.in-Word.name (env_in table rest c.args.names.now) c.in-Word.is)
