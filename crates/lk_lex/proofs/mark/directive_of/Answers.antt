use Rattle.std.proofs.Common.{◌≡◌, ℕ, Bool, List, codes, sym, ap, ◌∙◌, refl}
use Rattle.std.specs.Str.{bytes_eq}
use Rattle.lk_lex.specs.Marks.{directive}
use Rattle.lk_lex.proofs.mark.directive_of.Goals as goal

-- what a comparison with a word of the code says
compared : (word : List ℕ) {literal : List ℕ} (text : List ℕ) {found answer : Bool} → found ≡ bytes_eq word literal → literal ≡ text → found ≡ answer → bytes_eq word text ≡ answer
compared word text is same answered = ap (bytes_eq word) (sym same) ∙ sym is ∙ answered

pub returns-then-eq-clause-value : goal.returns-then-eq-clause-value
unfolding directive
returns-then-eq-clause-value c =
    rw (← c.past_blanks-rest.ensures, ← c.word_len.ensures.value, ← c.split_at.ensures.front, compared _ (codes "pragma") c.eq.ensures c.as_bytes.ensures.value c.if-eq.true) refl

pub returns-then-eq-2-clause-value : goal.returns-then-eq-2-clause-value
unfolding directive
returns-then-eq-2-clause-value c =
    rw (← c.past_blanks-rest.ensures, ← c.word_len.ensures.value, ← c.split_at.ensures.front, compared _ (codes "pragma") c.eq.ensures c.as_bytes.ensures.value c.if-eq.false, compared _ (codes "line") c.eq-2.ensures c.as_bytes-2.ensures.value c.if-eq-2.true, ← c.split_at.ensures.back, ← c.past_blanks.ensures) c.mark_directive.ensures.value

pub returns-clause-value : goal.returns-clause-value
unfolding directive
returns-clause-value c =
    rw (← c.past_blanks-rest.ensures, ← c.word_len.ensures.value, ← c.split_at.ensures.front, compared _ (codes "pragma") c.eq.ensures c.as_bytes.ensures.value c.if-eq.false, compared _ (codes "line") c.eq-2.ensures c.as_bytes-2.ensures.value c.if-eq-2.false) c.mark_directive-2.ensures.value
