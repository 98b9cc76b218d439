-- A source has one answer.
use Rattle.std.proofs.Common.{◌≡◌, ℕ, List, [], Option, Some, None, inl, inr, refl, ap, ◌∙◌}
use Rattle.lk_base.specs.declared.code.Code.TheVariants as c
use Rattle.lk_base.specs.declared.refusal.Refusal.{Refusal}
use Rattle.lk_lex.specs.declared.token.Token.{Token}
use Rattle.lk_lex.specs.Answer.{AreTokens, IsRefused, stopped, unsupported, refusal, first_refused, text_of}
use Rattle.lk_lex.specs.Laws.{IsSplitOrStops, Answer, accepted, refused, IsAnswer, HasOneAnswer}
use Rattle.lk_lex.specs.Tokens.{Splits, start_of}
use Rattle.lk_lex.proofs.Always.{always_one}
use Rattle.lk_lex.proofs.OneSplit.{has_one_list, never_both, has_one_stop}

-- a word of the code UnsupportedWord is among the tokens, or none is
told : (names : List (List ℕ)) (own : ℕ) (bytes : List ℕ) (last : List (List ℕ)) (tokens : List Token) → Splits names (start_of own) bytes tokens last
    → (answer : Answer) × IsAnswer names own bytes last answer
told names own bytes last tokens s = by (first_refused bytes tokens) refl
  where
    by : (found : Option Token) → first_refused bytes tokens ≡ found → (answer : Answer) × IsAnswer names own bytes last answer
    by None e = (accepted tokens, record { split = s; supported = e })
    by (Some token) e = (refused (refusal c.UnsupportedWord token.spot (text_of bytes token)), unsupported tokens token s e)

module _ (names : List (List ℕ)) (own : ℕ) (bytes : List ℕ) where
  tokens_once : (x y : List (List ℕ)) (a b : List Token) → AreTokens names own bytes x a → AreTokens names own bytes y b → (accepted b ≡ accepted a) × (y ≡ x)
  tokens_once x y a b first second = let same = has_one_list names (start_of own) bytes b a y x second.split first.split in (ap accepted same.0, same.1)

  refusal_once : (x y : List (List ℕ)) (told other : Refusal) → IsRefused names own bytes x told → IsRefused names own bytes y other → (other ≡ told) × (y ≡ x)
  refusal_once x y told other (stopped code spot s) (stopped more there t) =
      let same = has_one_stop names (start_of own) bytes more code there spot y x t s in
      (ap (λ k. refusal k there []) same.0 ∙ ap (λ k. refusal code k []) same.1, same.2)
  refusal_once x y told other (stopped code spot s) (unsupported tokens token t e) = absurd (never_both names (start_of own) bytes tokens y code spot x t s)
  refusal_once x y told other (unsupported tokens token t e) (stopped code spot s) = absurd (never_both names (start_of own) bytes tokens x code spot y t s)
  refusal_once x y told other (unsupported tokens token t e) (unsupported more word s g) =
      let same = has_one_list names (start_of own) bytes more tokens y x s t in
      let equal : word ≡ token = cc (ap (first_refused bytes) same.0) in
      (ap (λ k. refusal c.UnsupportedWord k.spot (text_of bytes k)) equal, same.1)

  never_told : (x y : List (List ℕ)) (tokens : List Token) (told : Refusal) → AreTokens names own bytes x tokens → IsRefused names own bytes y told → ⊥
  never_told x y tokens told are (stopped code spot s) = never_both names (start_of own) bytes tokens x code spot y are.split s
  never_told x y tokens told are (unsupported more token s e) =
      let same = has_one_list names (start_of own) bytes tokens more x y are.split s in
      let none : first_refused bytes tokens ≡ None = are.supported in
      absurd (cc (ap (first_refused bytes) same.0))

  only_one : (x y : List (List ℕ)) (answer other : Answer) → IsAnswer names own bytes x answer → IsAnswer names own bytes y other → (other ≡ answer) × (y ≡ x)
  only_one x y (accepted a) (accepted b) first second = tokens_once x y a b first second
  only_one x y (accepted a) (refused told) first second = absurd (never_told x y a told first second)
  only_one x y (refused told) (accepted a) first second = absurd (never_told y x a told second first)
  only_one x y (refused told) (refused other) first second = let same = refusal_once x y told other first second in (ap refused same.0, same.1)

pub has_one_answer : HasOneAnswer
has_one_answer names own bytes = by (always_one names (start_of own) bytes)
  where
    by : IsSplitOrStops names (start_of own) bytes
        → (answer : Answer) × (last : List (List ℕ)) × IsAnswer names own bytes last answer
        × ((other : Answer) (behind : List (List ℕ)) → IsAnswer names own bytes behind other → (other ≡ answer) × (behind ≡ last))
    by (inl (tokens, last, s)) = let is = told names own bytes last tokens s in (is.0, last, is.1, λ other behind. only_one names own bytes last behind is.0 other is.1)
    by (inr (code, spot, last, s)) =
        let is : IsAnswer names own bytes last (refused (refusal code spot [])) = stopped code spot s in
        (refused (refusal code spot []), last, is, λ other behind. only_one names own bytes last behind (refused (refusal code spot [])) other is)
