use Rattle.std.proofs.Common.{◌∙◌, refl, sym}
use Rattle.lk_sources.proofs.externs.is_word.Goals as goal

pub returns-then-are_word_bytes : goal.returns-then-are_word_bytes
returns-then-are_word_bytes c = rw (sym c.are_word_bytes.ensures ∙ c.if-are_word_bytes.true) refl
