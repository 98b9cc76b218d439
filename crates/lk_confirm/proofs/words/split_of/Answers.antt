use Rattle.std.proofs.Common.{◌∙◌, ap, sym}
use Rattle.std.specs.Prelude.{string_bytes}
use Rattle.std.specs.Option.{option_map}
use Rattle.lk_confirm.specs.Seen.{seen_split}
use Rattle.lk_confirm.specs.Words.{next_word}
use Rattle.lk_confirm.proofs.WordLemmas.{left_none, left_walk}
use Rattle.lk_confirm.proofs.words.split_of.Goals as goal

pub returns-in-None : goal.returns-in-None
returns-in-None c =
    let goes = sym (ap (option_map seen_split) c.in-None.is) ∙ c.in_ok-next.ensures ∙ ap (next_word (seen_split c.loop-word.split)) (c.as_str.ensures.value ∙ ap string_bytes c.word-item.is) in
    sym (left_walk c.args.words.now c.loop-word.word-index c.word-item.result c.loop-word-test.true (seen_split c.loop-word.split) _ _ c.loop-word.invariant goes)

pub loop-word-preserved : goal.loop-word-preserved
loop-word-preserved c =
    let goes = sym (ap (option_map seen_split) c.in-Some.is) ∙ c.in_ok-next.ensures ∙ ap (next_word (seen_split c.loop-word.split)) (c.as_str.ensures.value ∙ ap string_bytes c.word-item.is) in
    left_walk c.args.words.now c.loop-word.word-index c.word-item.result c.loop-word-test.true (seen_split c.loop-word.split) _ _ c.loop-word.invariant goes

pub returns : goal.returns
returns c = sym (left_none c.args.words.now c.loop-word.word-index (seen_split c.loop-word.split) _ c.loop-word-test.false c.loop-word.invariant)
