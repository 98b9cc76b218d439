-- What a list of tokens keeps: where its tokens stand, what their bytes are, their order and their files.
use Rattle.std.proofs.Common.{◌≡◌, ℕ, zero, suc, ◌+◌, ◌-◌, ◌<◌, ◌≤◌, Bool, true, false, not, ◌||◌, min, ◌==◌, cond, nat_eq, if◌then◌else◌, List, [], ◌∷◌, ◌++◌, length, take, drop, get_or, Option, Some, None, refl, sym, ap, subst, ◌∙◌, arith}
use Rattle.std.specs.Cmp.Lexicographic.{pointwise}
use Rattle.std.specs.List.{All, AllPairs, position_or_len}
use Rattle.std.proofs.lemmas.List.{drop-drop, length-append, length-drop, length-take, take-append-drop}
use Rattle.std.proofs.lemmas.List.Kept.{AllPairs-cons}
use Rattle.lk_base.specs.Files.{has_name, with_name}
use Rattle.lk_base.specs.declared.code.Code.{Code}
use Rattle.lk_base.specs.declared.spot.Spot.{Spot}
use Rattle.lk_lex.specs.declared.mark.Mark.{Mark}
use Rattle.lk_lex.specs.declared.place.Place.{Place}
use Rattle.lk_lex.specs.declared.token.Token.{Token}
use Rattle.lk_lex.specs.declared.token.TokenKind.{TokenKind}
use Rattle.lk_lex.specs.declared.token.TokenKind.TheVariants as k
use Rattle.lk_lex.specs.Answer.{AreTokens, text_of}
use Rattle.lk_lex.specs.TokenList.{IsInside, IsSpelled, IsEnded, AreTokensOf, is_end}
use Rattle.lk_lex.specs.Tokens.{Splits, ends, gap, line_mark, token, Stops, nothing, broken, past_gap, past_mark, past_token, start_of, after, after_byte, after_line, after_column, names_with, file_of, marked, token_at}
use Rattle.lk_lex.proofs.InFront.{IsRead, token_read}
use Rattle.lk_lex.proofs.Splitting.{after-at}

take_taken : (n : ℕ) (xs : List ℕ) → take (length (take n xs)) xs ≡ take n xs
take_taken zero xs = refl
take_taken (suc n) [] = refl
take_taken (suc n) (x ∷ xs) = ap (λ ys. x ∷ ys) (take_taken n xs)

drop_taken : (n : ℕ) (xs : List ℕ) → drop (length (take n xs)) xs ≡ drop n xs
drop_taken zero xs = refl
drop_taken (suc n) [] = refl
drop_taken (suc n) (x ∷ xs) = drop_taken n xs

-- how many bytes there are up to the end
whole : (place : Place) (n : ℕ) (bytes : List ℕ) → (after place (take n bytes)).at + length (drop n bytes) ≡ place.at + length bytes
whole place n bytes =
    let parts : length (take n bytes ++ drop n bytes) ≡ length bytes = ap length (take-append-drop n bytes) in
    omega (arith, after-at (take n bytes) place, parts, length-append (take n bytes) (drop n bytes))

-- the bytes are what is left of the source from the place on
record IsLeft (source : List ℕ) (place : Place) (bytes : List ℕ) : Type 0 where
  rest : bytes ≡ drop place.at source
  left : place.at + length bytes ≡ length source

left_behind : (source : List ℕ) (place : Place) (bytes : List ℕ) (n : ℕ) → IsLeft source place bytes → IsLeft source (after place (take n bytes)) (drop n bytes)
left_behind source place bytes n is = record {
  rest =
      sym (drop_taken n bytes) ∙ ap (drop (length (take n bytes))) is.rest ∙ drop-drop (length (take n bytes)) place.at source
      ∙ ap (λ m. drop m source) (sym (after-at (take n bytes) place));
  left = whole place n bytes ∙ is.left;
}

-- a token's numbers and its bytes
record Stands (source : List ℕ) (token : Token) : Type 0 where
  inside : IsInside (length source) token
  spelled : IsSpelled (text_of source token) token.kind

end_stands : (source : List ℕ) (place : Place) → IsLeft source place [] → Stands source (token_at place place k.End)
end_stands source place is = record {
  inside = record { ordered = omega arith; some = λ e. absurd cc; fits = omega (arith, is.left); short = λ word. absurd cc };
  spelled = none (place.at - place.at) (omega arith);
}
  where
    none : (n : ℕ) → n ≡ 0 → take n (drop place.at source) ≡ []
    none n empty = rw empty refl

token_stands : (source : List ℕ) (place : Place) (b : ℕ) (bs : List ℕ) (n : ℕ) (kind : TokenKind) → IsLeft source place (b ∷ bs) → IsRead (b ∷ bs) n kind
    → Stands source (token_at place (after place (take n (b ∷ bs))) kind)
token_stands source place b bs n kind is read =
    let at : (after place (take n (b ∷ bs))).at ≡ place.at + length (take n (b ∷ bs)) = after-at (take n (b ∷ bs)) place in
    let sum = whole place n (b ∷ bs) in
    let taken : length (take n (b ∷ bs)) ≡ min n (length (b ∷ bs)) = length-take n (b ∷ bs) in
    let wide : (after place (take n (b ∷ bs))).at - place.at ≡ length (take n (b ∷ bs)) = omega (arith, at) in
    let text : take ((after place (take n (b ∷ bs))).at - place.at) (drop place.at source) ≡ take n (b ∷ bs) =
    ap (λ m. take m (drop place.at source)) wide ∙ ap (take (length (take n (b ∷ bs)))) (sym is.rest) ∙ take_taken n (b ∷ bs) in
    record {
      inside = record {
        ordered = omega (arith, at);
        some = λ e. omega (arith, at, taken, read.some);
        fits = omega (arith, sum, is.left);
        short = λ word. omega (arith, at, taken, read.short word);
      };
      spelled = subst (λ t. IsSpelled t kind) (sym text) read.spelled;
    }

stands_at : {names last : List (List ℕ)} {place : Place} {bytes : List ℕ} {tokens : List Token} (source : List ℕ) → Splits names place bytes tokens last → IsLeft source place bytes
    → (i : ℕ) (d : Token) → i < length tokens → Stands source (get_or tokens i d)
stands_at {place = place} source ends is zero d there = end_stands source place is
stands_at source ends is (suc i) d there = absurd (omega arith)
stands_at {place = place} source (gap {b = b} {bs = bs} n e s) is i d there = stands_at source s (left_behind source place (b ∷ bs) n is) i d there
stands_at {place = place} source (line_mark {b = b} {bs = bs} n mark e s) is i d there =
    let behind = left_behind source place (b ∷ bs) n is in stands_at source s (record { rest = behind.rest; left = behind.left }) i d there
stands_at {place = place} source (token {b = b} {bs = bs} n kind e s) is zero d there = token_stands source place b bs n kind is (token_read place.fresh (b ∷ bs) n kind e)
stands_at {place = place} source (token {b = b} {bs = bs} n kind e s) is (suc i) d there = stands_at source s (left_behind source place (b ∷ bs) n is) i d (omega arith)

start_left : (own : ℕ) (source : List ℕ) → IsLeft source (start_of own) source
start_left own source = record { rest = refl; left = omega arith }

pub splits_inside : {names last : List (List ℕ)} {own : ℕ} {bytes : List ℕ} {tokens : List Token} → Splits names (start_of own) bytes tokens last → All (IsInside (length bytes)) tokens
splits_inside {own = own} {bytes = bytes} s i d there = (stands_at bytes s (start_left own bytes) i d there).inside

splits_spelled : {names last : List (List ℕ)} {own : ℕ} {bytes : List ℕ} {tokens : List Token} → Splits names (start_of own) bytes tokens last
    → All (λ token. IsSpelled (text_of bytes token) token.kind) tokens
splits_spelled {own = own} {bytes = bytes} s i d there = (stands_at bytes s (start_left own bytes) i d there).spelled

-- tokens stand behind the place from which they are split
from_at : {names last : List (List ℕ)} {place : Place} {bytes : List ℕ} {tokens : List Token} → Splits names place bytes tokens last
    → (i : ℕ) (d : Token) → i < length tokens → place.at ≤ (get_or tokens i d).from
from_at ends zero d there = omega arith
from_at ends (suc i) d there = absurd (omega arith)
from_at {place = place} (gap {b = b} {bs = bs} n e s) i d there = omega (arith, from_at s i d there, after-at (take n (b ∷ bs)) place)
from_at {place = place} (line_mark {b = b} {bs = bs} n mark e s) i d there = omega (arith, from_at s i d there, after-at (take n (b ∷ bs)) place)
from_at (token n kind e s) zero d there = omega arith
from_at {place = place} (token {b = b} {bs = bs} n kind e s) (suc i) d there =
    omega (arith, from_at s i d (omega arith), after-at (take n (b ∷ bs)) place)

-- tokens stand in their order, apart from one another
splits_apart : {names last : List (List ℕ)} {place : Place} {bytes : List ℕ} {tokens : List Token} → Splits names place bytes tokens last → AllPairs (λ first later. first.to ≤ later.from) tokens
splits_apart (ends {place = place}) = λ i j d before there. absurd (omega arith)
splits_apart (gap n e s) = splits_apart s
splits_apart (line_mark n mark e s) = splits_apart s
splits_apart {place = place} (token {b = b} {bs = bs} {tokens = tokens} n kind e s) =
    AllPairs-cons (λ first later. first.to ≤ later.from) (token_at place (after place (take n (b ∷ bs))) kind) tokens (λ i d there. from_at s i d there) (splits_apart s)

ended_token : (bytes : ℕ) (first : Token) (tokens : List Token) → is_end first.kind ≡ false → IsEnded bytes tokens → IsEnded bytes (first ∷ tokens)
ended_token bytes first tokens plain is = record {
  before = first ∷ is.before;
  last = is.last;
  all = ap (λ others. first ∷ others) is.all;
  only = all_front;
  end = is.end;
  from = is.from;
  to = is.to;
}
  where
    all_front : All (λ token. is_end token.kind ≡ false) (first ∷ is.before)
    all_front zero d there = plain
    all_front (suc i) d there = is.only i d (omega arith)

-- the last token is End
splits_ended : {names last : List (List ℕ)} {place : Place} {bytes : List ℕ} {tokens : List Token} (all : ℕ) → Splits names place bytes tokens last → place.at + length bytes ≡ all → IsEnded all tokens
splits_ended {place = place} all ends left = record {
  before = [];
  last = token_at place place k.End;
  all = refl;
  only = λ i d there. absurd (omega arith);
  end = refl;
  from = omega (arith, left);
  to = omega (arith, left);
}
splits_ended {place = place} all (gap {b = b} {bs = bs} n e s) left = splits_ended all s (whole place n (b ∷ bs) ∙ left)
splits_ended {place = place} all (line_mark {b = b} {bs = bs} n mark e s) left = splits_ended all s (whole place n (b ∷ bs) ∙ left)
splits_ended {place = place} all (token {b = b} {bs = bs} {tokens = tokens} n kind e s) left =
    ended_token all (token_at place (after place (take n (b ∷ bs))) kind) tokens (token_read place.fresh (b ∷ bs) n kind e).not_end (splits_ended all s (whole place n (b ∷ bs) ∙ left))

-- a token takes a byte
splits_few : {names last : List (List ℕ)} {place : Place} {bytes : List ℕ} {tokens : List Token} → Splits names place bytes tokens last → length tokens ≤ length bytes + 1
splits_few ends = omega arith
splits_few (gap {b = b} {bs = bs} n e s) = omega (arith, splits_few s, length-drop n (b ∷ bs))
splits_few (line_mark {b = b} {bs = bs} n mark e s) = omega (arith, splits_few s, length-drop n (b ∷ bs))
splits_few {place = place} (token {b = b} {bs = bs} n kind e s) = omega (arith, splits_few s, length-drop n (b ∷ bs), (token_read place.fresh (b ∷ bs) n kind e).some)

-- the files of a place have names
record IsFiled (names : List (List ℕ)) (place : Place) : Type 0 where
  spot : place.spot.file < length names
  next : place.next.file < length names

byte_filed : (names : List (List ℕ)) (place : Place) (b : ℕ) → IsFiled names place → IsFiled names (after_byte place b)
byte_filed names place b is = by (b == 10)
  where
    by : (newline : Bool) → IsFiled names (if newline then after_line place else after_column place b)
    by true = record { spot = is.next; next = is.next }
    by false = record { spot = is.spot; next = is.next }

after_filed : (names : List (List ℕ)) (bytes : List ℕ) (place : Place) → IsFiled names place → IsFiled names (after place bytes)
after_filed names [] place is = is
after_filed names (b ∷ bs) place is = after_filed names bs (after_byte place b) (byte_filed names place b is)

abbrev same : List ℕ → List ℕ → Bool
same a b = pointwise nat_eq a b

found_below : (name : List ℕ) (names : List (List ℕ)) → has_name names name ≡ true → position_or_len (same name) names < length names
found_below name [] found = absurd cc
found_below name (n ∷ ns) found = by (same name n) (λ others. found_below name ns others) found
  where
    by : (here : Bool) → (has_name ns name ≡ true → position_or_len (same name) ns < length ns) → (here || has_name ns name) ≡ true
        → cond (not here) (1 + position_or_len (same name) ns) 0 < length (n ∷ ns)
    by true others found = omega arith
    by false others found = omega (arith, others found)

at_most : (name : List ℕ) (names : List (List ℕ)) → position_or_len (same name) names ≤ length names
at_most name [] = omega arith
at_most name (n ∷ ns) = by (same name n) (at_most name ns)
  where
    by : (here : Bool) → position_or_len (same name) ns ≤ length ns → cond (not here) (1 + position_or_len (same name) ns) 0 ≤ length (n ∷ ns)
    by true others = omega arith
    by false others = omega (arith, others)

put_below : (names : List (List ℕ)) (name : List ℕ) → position_or_len (same name) names < length (with_name names name)
put_below names name = by (has_name names name) refl
  where
    by : (found : Bool) → has_name names name ≡ found → position_or_len (same name) names < length (if found then names else names ++ name ∷ [])
    by true e = found_below name names e
    by false e = omega (arith, at_most name names, length-append names (name ∷ []))

grown : (names : List (List ℕ)) (name : Option (List ℕ)) → length names ≤ length (names_with names name)
grown names None = omega arith
grown names (Some name) = by (has_name names name)
  where
    by : (found : Bool) → length names ≤ length (if found then names else names ++ name ∷ [])
    by true = omega arith
    by false = omega (arith, length-append names (name ∷ []))

file_below : (names : List (List ℕ)) (place : Place) (name : Option (List ℕ)) → place.spot.file < length names → file_of names place name < length (names_with names name)
file_below names place None below = below
file_below names place (Some name) below = put_below names name

marked_filed : (names : List (List ℕ)) (place : Place) (mark : Mark) → IsFiled names place → IsFiled (names_with names mark.name) (marked names place mark)
marked_filed names place mark is = record { spot = omega (arith, is.spot, grown names mark.name); next = file_below names place mark.name is.spot }

-- names only grow
more_names : {names last : List (List ℕ)} {place : Place} {bytes : List ℕ} {tokens : List Token} → Splits names place bytes tokens last → length names ≤ length last
more_names ends = omega arith
more_names (gap n e s) = more_names s
more_names {names = names} (line_mark n mark e s) = omega (arith, more_names s, grown names mark.name)
more_names (token n kind e s) = more_names s

filed_at : {names last : List (List ℕ)} {place : Place} {bytes : List ℕ} {tokens : List Token} → Splits names place bytes tokens last → IsFiled names place
    → (i : ℕ) (d : Token) → i < length tokens → (get_or tokens i d).spot.file < length last
filed_at ends is zero d there = is.spot
filed_at ends is (suc i) d there = absurd (omega arith)
filed_at {names = names} {place = place} (gap {b = b} {bs = bs} n e s) is i d there = filed_at s (after_filed names (take n (b ∷ bs)) place is) i d there
filed_at {names = names} {place = place} (line_mark {b = b} {bs = bs} n mark e s) is i d there = filed_at s (marked_filed names (after place (take n (b ∷ bs))) mark (after_filed names (take n (b ∷ bs)) place is)) i d there
filed_at (token n kind e s) is zero d there = omega (arith, is.spot, more_names s)
filed_at {names = names} {place = place} (token {b = b} {bs = bs} n kind e s) is (suc i) d there = filed_at s (after_filed names (take n (b ∷ bs)) place is) i d (omega arith)

stop_filed : {names last : List (List ℕ)} {place : Place} {bytes : List ℕ} {code : Code} {spot : Spot} → Stops names place bytes code spot last → IsFiled names place → spot.file < length last
stop_filed (nothing e) is = is.spot
stop_filed (broken e) is = is.spot
stop_filed {names = names} {place = place} (past_gap {b = b} {bs = bs} n e s) is = stop_filed s (after_filed names (take n (b ∷ bs)) place is)
stop_filed {names = names} {place = place} (past_mark {b = b} {bs = bs} n mark e s) is = stop_filed s (marked_filed names (after place (take n (b ∷ bs))) mark (after_filed names (take n (b ∷ bs)) place is))
stop_filed {names = names} {place = place} (past_token {b = b} {bs = bs} n kind e s) is = stop_filed s (after_filed names (take n (b ∷ bs)) place is)

pub splits_filed : {names last : List (List ℕ)} {own : ℕ} {bytes : List ℕ} {tokens : List Token} → own < length names → Splits names (start_of own) bytes tokens last
    → All (λ token. token.spot.file < length last) tokens
splits_filed there s i d below = filed_at s (record { spot = there; next = there }) i d below

pub stops_filed : {names last : List (List ℕ)} {own : ℕ} {bytes : List ℕ} {code : Code} {spot : Spot} → own < length names → Stops names (start_of own) bytes code spot last
    → spot.file < length last
stops_filed there s = stop_filed s (record { spot = there; next = there })

-- what is known of a list that a source is answered with
pub are_tokens_of : {names last : List (List ℕ)} {own : ℕ} {bytes : List ℕ} {tokens : List Token} → own < length names → AreTokens names own bytes last tokens → AreTokensOf bytes last tokens
are_tokens_of {names} {last} {own} {bytes} {tokens} there are = record {
  answered = (names, own, are);
  inside = splits_inside are.split;
  spelled = splits_spelled are.split;
  filed = splits_filed there are.split;
  apart = splits_apart are.split;
  ended = splits_ended (length bytes) are.split (omega arith);
  few = splits_few are.split;
}
