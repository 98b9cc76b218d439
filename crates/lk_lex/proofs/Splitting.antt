-- How far a source is split.
use Rattle.std.proofs.Common.{◌≡◌, ℕ, ◌+◌, ◌<◌, ◌≤◌, Bool, true, false, ◌==◌, if◌then◌else◌, List, [], ◌∷◌, ◌++◌, length, take, drop, refl, sym, ◌∙◌, append_assoc, arith}
use Rattle.std.proofs.lemmas.Bool.{eqb-true}
use Rattle.std.proofs.lemmas.List.{length-take-le, length-drop}
use Rattle.lk_base.specs.declared.code.Code.{Code}
use Rattle.lk_base.specs.declared.code.Code.TheVariants as c
use Rattle.lk_base.specs.declared.spot.Spot.{Spot}
use Rattle.lk_base.specs.declared.fault.Fault.{Fault}
use Rattle.lk_base.specs.declared.fault.Fault.TheVariants as e
use Rattle.lk_lex.specs.declared.front.Front.TheVariants as f
use Rattle.lk_lex.specs.declared.mark.Mark.{Mark}
use Rattle.lk_lex.specs.declared.place.Place.{Place}
use Rattle.lk_lex.specs.declared.token.Token.{Token}
use Rattle.lk_lex.specs.declared.token.TokenKind.{TokenKind}
use Rattle.lk_lex.specs.declared.token.TokenKind.TheVariants as k
use Rattle.lk_lex.specs.Answer.{Extends, refusal}
use Rattle.lk_lex.specs.Front.{cut}
use Rattle.lk_lex.specs.Lengths.{IsWithin, IsBounded, IsFaultOf, IsStop}
use Rattle.lk_lex.specs.Tokens.{Splits, ends, gap, line_mark, token, Stops, nothing, broken, past_gap, past_mark, past_token, after, after_byte, after_line, after_column, names_with, marked, token_at}
use Rattle.lk_lex.proofs.FileNames.{names_with-few, names_with-extends, extends-extends}

-- The bytes from the first place on are these tokens, and then what the rest is split into from this place on; and the split stops where that of the rest stops
pub record Upto (first_names : List (List ℕ)) (first : Place) (source : List ℕ) (names : List (List ℕ)) (place : Place) (rest : List ℕ) (found : List Token) : Type 0 where
  pub splits : (tokens : List Token) (last : List (List ℕ)) → Splits names place rest tokens last → Splits first_names first source (found ++ tokens) last
  pub stops : (code : Code) (spot : Spot) (last : List (List ℕ)) → Stops names place rest code spot last → Stops first_names first source code spot last
  pub bounded : IsBounded place
  pub left : place.at + length rest ≤ length source
  pub few : length names ≤ length first_names + place.at
  pub extends : Extends first_names names

line_bounded : (place : Place) → IsBounded place → IsBounded (after_line place)
line_bounded place is = record { line = omega (arith, is.next_line); col = omega (arith, is.next_col); next_line = omega (arith, is.next_line); next_col = omega (arith, is.next_col) }

column_bounded : (place : Place) (b : ℕ) → IsBounded place → IsBounded (after_column place b)
column_bounded place b is = record { line = omega (arith, is.line); col = omega (arith, is.col); next_line = omega (arith, is.next_line); next_col = omega (arith, is.next_col) }

byte_bounded : (place : Place) (b : ℕ) → IsBounded place → IsBounded (after_byte place b)
byte_bounded place b is = by (b == 10)
  where
    by : (newline : Bool) → IsBounded (if newline then after_line place else after_column place b)
    by true = line_bounded place is
    by false = column_bounded place b is

pub after-bounded : (bytes : List ℕ) (place : Place) → IsBounded place → IsBounded (after place bytes)
after-bounded [] place is = is
after-bounded (b ∷ bs) place is = after-bounded bs (after_byte place b) (byte_bounded place b is)

byte_at : (place : Place) (b : ℕ) → (after_byte place b).at ≡ place.at + 1
byte_at place b = by (b == 10)
  where
    by : (newline : Bool) → (if newline then after_line place else after_column place b).at ≡ place.at + 1
    by true = refl
    by false = refl

pub after-at : (bytes : List ℕ) (place : Place) → (after place bytes).at ≡ place.at + length bytes
after-at [] place = omega arith
after-at (b ∷ bs) place = omega (arith, after-at bs (after_byte place b), byte_at place b)

taken : (n : ℕ) (rest : List ℕ) → IsWithin (length rest) n → (0 < length (take n rest)) × (length (take n rest) + length (drop n rest) ≡ length rest)
taken n rest within =
    let len : length (take n rest) ≡ n = length-take-le n rest within.fits in
    (omega (arith, len, within.some), omega (arith, len, within.fits, length-drop n rest))

-- the constructors, where the bytes aren't written as a first byte and others
gap_here : {names last : List (List ℕ)} {place : Place} {tokens : List Token} (rest : List ℕ) (n : ℕ) → IsWithin (length rest) n → cut place.fresh rest ≡ f.Gap n
    → Splits names (after place (take n rest)) (drop n rest) tokens last → Splits names place rest tokens last
gap_here [] n within e s = absurd (omega (arith, within.some, within.fits))
gap_here (b ∷ bs) n within e s = gap n e s

past_gap_here : {names last : List (List ℕ)} {place : Place} {code : Code} {spot : Spot} (rest : List ℕ) (n : ℕ) → IsWithin (length rest) n → cut place.fresh rest ≡ f.Gap n
    → Stops names (after place (take n rest)) (drop n rest) code spot last → Stops names place rest code spot last
past_gap_here [] n within e s = absurd (omega (arith, within.some, within.fits))
past_gap_here (b ∷ bs) n within e s = past_gap n e s

mark_here : {names last : List (List ℕ)} {place : Place} {tokens : List Token} (rest : List ℕ) (n : ℕ) (mark : Mark) → IsWithin (length rest) n → cut place.fresh rest ≡ f.Mark n mark
    → Splits (names_with names mark.name) (marked names (after place (take n rest)) mark) (drop n rest) tokens last → Splits names place rest tokens last
mark_here [] n mark within e s = absurd (omega (arith, within.some, within.fits))
mark_here (b ∷ bs) n mark within e s = line_mark n mark e s

past_mark_here : {names last : List (List ℕ)} {place : Place} {code : Code} {spot : Spot} (rest : List ℕ) (n : ℕ) (mark : Mark) → IsWithin (length rest) n → cut place.fresh rest ≡ f.Mark n mark
    → Stops (names_with names mark.name) (marked names (after place (take n rest)) mark) (drop n rest) code spot last → Stops names place rest code spot last
past_mark_here [] n mark within e s = absurd (omega (arith, within.some, within.fits))
past_mark_here (b ∷ bs) n mark within e s = past_mark n mark e s

token_here : {names last : List (List ℕ)} {place : Place} {tokens : List Token} (rest : List ℕ) (n : ℕ) (kind : TokenKind) → IsWithin (length rest) n → cut place.fresh rest ≡ f.Token n kind
    → Splits names (after place (take n rest)) (drop n rest) tokens last → Splits names place rest (token_at place (after place (take n rest)) kind ∷ tokens) last
token_here [] n kind within e s = absurd (omega (arith, within.some, within.fits))
token_here (b ∷ bs) n kind within e s = token n kind e s

past_token_here : {names last : List (List ℕ)} {place : Place} {code : Code} {spot : Spot} (rest : List ℕ) (n : ℕ) (kind : TokenKind) → IsWithin (length rest) n → cut place.fresh rest ≡ f.Token n kind
    → Stops names (after place (take n rest)) (drop n rest) code spot last → Stops names place rest code spot last
past_token_here [] n kind within e s = absurd (omega (arith, within.some, within.fits))
past_token_here (b ∷ bs) n kind within e s = past_token n kind e s

nothing_here : {names : List (List ℕ)} {place : Place} (rest : List ℕ) → 0 < length rest → cut place.fresh rest ≡ f.Nothing → Stops names place rest c.Byte place.spot names
nothing_here [] some e = absurd (omega arith)
nothing_here (b ∷ bs) some e = nothing e

broken_here : {names : List (List ℕ)} {place : Place} (rest : List ℕ) → 0 < length rest → cut place.fresh rest ≡ f.Broken → Stops names place rest c.Token place.spot names
broken_here [] some e = absurd (omega arith)
broken_here (b ∷ bs) some e = broken e

module _ {first_names names : List (List ℕ)} {first place : Place} {source rest : List ℕ} {found : List Token} (upto : Upto first_names first source names place rest found) where
  -- behind a blank, a comment or a pragma
  pub upto_gap : (n : ℕ) → IsWithin (length rest) n → cut place.fresh rest ≡ f.Gap n → Upto first_names first source names (after place (take n rest)) (drop n rest) found
  upto_gap n within e = record {
    splits = λ tokens last s. upto.splits tokens last (gap_here rest n within e s);
    stops = λ code spot last s. upto.stops code spot last (past_gap_here rest n within e s);
    bounded = after-bounded (take n rest) place upto.bounded;
    left = omega (arith, upto.left, after-at (take n rest) place, taken n rest within);
    few = omega (arith, upto.few, after-at (take n rest) place);
    extends = upto.extends;
  }

  -- behind a token
  pub upto_token : (n : ℕ) (kind : TokenKind) → IsWithin (length rest) n → cut place.fresh rest ≡ f.Token n kind
      → Upto first_names first source names (after place (take n rest)) (drop n rest) (found ++ token_at place (after place (take n rest)) kind ∷ [])
  upto_token n kind within e = record {
    splits = λ tokens last s. rw append_assoc (upto.splits _ last (token_here rest n kind within e s));
    stops = λ code spot last s. upto.stops code spot last (past_token_here rest n kind within e s);
    bounded = after-bounded (take n rest) place upto.bounded;
    left = omega (arith, upto.left, after-at (take n rest) place, taken n rest within);
    few = omega (arith, upto.few, after-at (take n rest) place);
    extends = upto.extends;
  }

  -- behind a line mark
  pub upto_mark : (n : ℕ) (mark : Mark) → IsWithin (length rest) n → mark.line ≤ 2147483647 → cut place.fresh rest ≡ f.Mark n mark
      → Upto first_names first source (names_with names mark.name) (marked names (after place (take n rest)) mark) (drop n rest) found
  upto_mark n mark within small e =
      let behind = after-bounded (take n rest) place upto.bounded in
      let at : (after place (take n rest)).at ≡ place.at + length (take n rest) = after-at (take n rest) place in
      record {
        splits = λ tokens last s. upto.splits tokens last (mark_here rest n mark within e s);
        stops = λ code spot last s. upto.stops code spot last (past_mark_here rest n mark within e s);
        bounded = record { line = behind.line; col = behind.col; next_line = omega (arith, small); next_col = omega arith };
        left = omega (arith, upto.left, at, taken n rest within);
        few = omega (arith, upto.few, at, taken n rest within, names_with-few names mark.name);
        extends = extends-extends first_names names (names_with names mark.name) upto.extends (names_with-extends names mark.name);
      }

  -- the end
  pub upto_end : rest ≡ [] → Splits first_names first source (found ++ token_at place place k.End ∷ []) names
  upto_end empty = upto.splits _ names (rw empty ends)

  pub upto_nothing : 0 < length rest → cut place.fresh rest ≡ f.Nothing → Stops first_names first source c.Byte place.spot names
  upto_nothing some e = upto.stops c.Byte place.spot names (nothing_here rest some e)

  pub upto_broken : 0 < length rest → cut place.fresh rest ≡ f.Broken → Stops first_names first source c.Token place.spot names
  upto_broken some e = upto.stops c.Token place.spot names (broken_here rest some e)

-- a fault that tells of a stop
pub stop_told : {names last : List (List ℕ)} {place : Place} {bytes : List ℕ} {code : Code} {spot : Spot} (fault : Fault) → IsFaultOf (refusal code spot []) fault
    → Stops names place bytes code spot last → IsStop names place bytes last fault
stop_told e.NoMemory told s = tt
stop_told {code = code} {spot = spot} (e.Refused other) told s = (code, spot, told, s)

pub not_empty : (rest : List ℕ) (empty : Bool) → empty ≡ (length rest == 0) → empty ≡ false → 0 < length rest
not_empty [] empty is full = absurd cc
not_empty (b ∷ bs) empty is full = omega arith

pub is_empty : (rest : List ℕ) (empty : Bool) → empty ≡ (length rest == 0) → empty ≡ true → rest ≡ []
is_empty [] empty is none = refl
is_empty (b ∷ bs) empty is none = absurd (omega (arith, eqb-true (length (b ∷ bs)) 0 (sym is ∙ none)))
