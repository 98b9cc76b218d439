-- A source splits or stops, since what stands in front has a byte.
use Rattle.std.proofs.Common.{◌≡◌, ℕ, zero, suc, ◌<◌, ◌≤◌, List, [], ◌∷◌, length, take, drop, inl, inr, refl, arith}
use Rattle.std.proofs.lemmas.List.{length-drop}
use Rattle.lk_base.specs.declared.code.Code.TheVariants as c
use Rattle.lk_lex.specs.declared.front.Front.{Front}
use Rattle.lk_lex.specs.declared.front.Front.TheVariants as f
use Rattle.lk_lex.specs.declared.mark.Mark.{Mark}
use Rattle.lk_lex.specs.declared.place.Place.{Place}
use Rattle.lk_lex.specs.declared.token.TokenKind.{TokenKind}
use Rattle.lk_lex.specs.Front.{cut}
use Rattle.lk_lex.specs.Laws.{IsSplitOrStops, AlwaysOne}
use Rattle.lk_lex.specs.Tokens.{ends, gap, line_mark, token, nothing, broken, past_gap, past_mark, past_token, after, names_with, marked}
use Rattle.lk_lex.proofs.InFront.{gap_some, mark_some, token_read}

gap_found : {names : List (List ℕ)} {place : Place} {b : ℕ} {bs : List ℕ} (n : ℕ) → cut place.fresh (b ∷ bs) ≡ f.Gap n
    → IsSplitOrStops names (after place (take n (b ∷ bs))) (drop n (b ∷ bs)) → IsSplitOrStops names place (b ∷ bs)
gap_found n e (inl (tokens, last, s)) = inl (tokens, last, gap n e s)
gap_found n e (inr (code, spot, last, s)) = inr (code, spot, last, past_gap n e s)

mark_found : {names : List (List ℕ)} {place : Place} {b : ℕ} {bs : List ℕ} (n : ℕ) (mark : Mark) → cut place.fresh (b ∷ bs) ≡ f.Mark n mark
    → IsSplitOrStops (names_with names mark.name) (marked names (after place (take n (b ∷ bs))) mark) (drop n (b ∷ bs)) → IsSplitOrStops names place (b ∷ bs)
mark_found n mark e (inl (tokens, last, s)) = inl (tokens, last, line_mark n mark e s)
mark_found n mark e (inr (code, spot, last, s)) = inr (code, spot, last, past_mark n mark e s)

token_found : {names : List (List ℕ)} {place : Place} {b : ℕ} {bs : List ℕ} (n : ℕ) (kind : TokenKind) → cut place.fresh (b ∷ bs) ≡ f.Token n kind
    → IsSplitOrStops names (after place (take n (b ∷ bs))) (drop n (b ∷ bs)) → IsSplitOrStops names place (b ∷ bs)
token_found n kind e (inl (tokens, last, s)) = inl (_, last, token n kind e s)
token_found n kind e (inr (code, spot, last, s)) = inr (code, spot, last, past_token n kind e s)

always : (fuel : ℕ) (names : List (List ℕ)) (place : Place) (bytes : List ℕ) → length bytes ≤ fuel → IsSplitOrStops names place bytes
always fuel names place [] enough = inl (_, names, ends)
always zero names place (b ∷ bs) enough = absurd (omega arith)
always (suc fuel) names place (b ∷ bs) enough = by (λ others there n some. always fuel others there (drop n (b ∷ bs)) (omega (arith, length-drop n (b ∷ bs), some))) (cut place.fresh (b ∷ bs)) refl
  where
    by : ((others : List (List ℕ)) (there : Place) (n : ℕ) → 0 < n → IsSplitOrStops others there (drop n (b ∷ bs))) → (front : Front) → cut place.fresh (b ∷ bs) ≡ front → IsSplitOrStops names place (b ∷ bs)
    by further f.Nothing e = inr (c.Byte, place.spot, names, nothing e)
    by further f.Broken e = inr (c.Token, place.spot, names, broken e)
    by further (f.Gap n) e = gap_found n e (further names (after place (take n (b ∷ bs))) n (gap_some place.fresh (b ∷ bs) n e))
    by further (f.Mark n mark) e =
        mark_found n mark e (further (names_with names mark.name) (marked names (after place (take n (b ∷ bs))) mark) n (mark_some place.fresh (b ∷ bs) n mark e))
    by further (f.Token n kind) e = token_found n kind e (further names (after place (take n (b ∷ bs))) n (token_read place.fresh (b ∷ bs) n kind e).some)

pub always_one : AlwaysOne
always_one names place bytes = always (length bytes) names place bytes (omega arith)
