use Rattle.std.proofs.Common.{map}
use Rattle.lk_words.proofs.Matches.{match_of, none_of}
use Rattle.lk_words.proofs.Texts.{texts_are}
use Rattle.lk_words.proofs.reading.matches_of.Goals as goal

pub returns-in-Ok-clause-ok : goal.returns-in-Ok-clause-ok
returns-in-Ok-clause-ok c =
    match_of (map (λ name. name.now) c.args.options.now) c.requires _ (texts_are c.args.words.now) _ c.in_ok-command.ensures _ c.in-Ok.ensures.kinds c.in-Ok.ensures.matches

pub returns-in-Err-clause-usage : goal.returns-in-Err-clause-usage
returns-in-Err-clause-usage c = λ usage.
    none_of (map (λ name. name.now) c.args.options.now) c.requires _ (texts_are c.args.words.now) _ c.in_ok-command.ensures c.in-Err.error c.in-Err.ensures.kinds (c.fault_of.ensures usage)
