-- How far the splits of several sources have come.
use Rattle.std.proofs.Common.{◌≡◌, ◌≢◌, ◌∙◌, ◌<◌, ◌≤◌, ◌+◌, ◌⊎◌, inl, inr, ℕ, true, List, [], ◌∷◌, ◌++◌, Option, Some, None, length, refl, sym, ap, subst, arith}
use Rattle.std.specs.List.{All}
use Rattle.std.specs.Option.{option_or, option_map}
use Rattle.std.proofs.lemmas.List.{append_assoc, append-nil, length-append}
use Rattle.std.proofs.lemmas.List.Elements.{All-head, All-nil, All-push, All-tail, All-weaker}
use Rattle.std.proofs.lemmas.Option.{same_Some}
use Rattle.lk_base.specs.Files.{has_name, with_name}
use Rattle.lk_base.specs.declared.code.Code.{Code}
use Rattle.lk_base.specs.declared.code.Code.TheVariants.{Byte, Token as BadToken, UnsupportedWord}
use Rattle.lk_base.specs.declared.fault.Fault.{Fault}
use Rattle.lk_base.specs.declared.fault.Fault.TheVariants as fault
use Rattle.lk_base.specs.declared.refusal.Refusal.{Refusal}
use Rattle.lk_base.specs.declared.spot.Spot.{Spot}
use Rattle.lk_lex.specs.Answer.{Extends, IsRefused, first_refused, refusal, text_of}
use Rattle.lk_lex.specs.Answer as answer
use Rattle.lk_lex.specs.Lengths.{IsStop}
use Rattle.lk_lex.specs.TokenList.{AreTokensOf, IsInside}
use Rattle.lk_lex.specs.Tokens.{Splits, Stops, start_of}
use Rattle.lk_lex.specs.Tokens as split
use Rattle.lk_lex.specs.declared.place.Place.{Place}
use Rattle.lk_lex.specs.declared.token.Token.{Token}
use Rattle.lk_sources.specs.Calls.{IsSplit, AreAllInside, IsSplitFault}
use Rattle.lk_sources.specs.Numbers.{number_of}
use Rattle.lk_sources.specs.Readable.{AreNamed, AreShort}
use Rattle.lk_sources.specs.Splitting.{AreFiled, AreSplit, nothing, next, StopsIn, here, behind, word_in, first_word}
use Rattle.lk_sources.specs.declared.reading.Source.{Source}
use Rattle.lk_sources.specs.declared.splitting.Split.TheVariants as splits
use Rattle.lk_sources.proofs.Numbered.{has_extended, with_itself}

-- ---- a refusal of tokens

-- a split stops with one of two codes
stop_is : {names : List (List ℕ)} {place : Place} {bytes : List ℕ} {code : Code} {spot : Spot} {last : List (List ℕ)} → Stops names place bytes code spot last → (code ≡ Byte) ⊎ (code ≡ BadToken)
stop_is (split.nothing e) = inl refl
stop_is (split.broken e) = inr refl
stop_is (split.past_gap n e rest) = stop_is rest
stop_is (split.past_mark n mark e rest) = stop_is rest
stop_is (split.past_token n kind e rest) = stop_is rest

no_word : (code : Code) → (code ≡ Byte) ⊎ (code ≡ BadToken) → code ≡ UnsupportedWord → ⊥
no_word code (inl e) is = let clash = sym e ∙ is in cc
no_word code (inr e) is = let clash = sym e ∙ is in cc

pub word_found : (names : List (List ℕ)) (own : ℕ) (s : Source) (last : List (List ℕ)) (told : Refusal) → IsRefused names own s.bytes last told → told.spot.file < length last →
    told.code ≡ UnsupportedWord → IsSplit names own s last (splits.Word told)
word_found names own s last told (answer.stopped code spot stops) there is = absurd (no_word code (stop_is stops) is)
word_found names own s last told (answer.unsupported tokens token split found) there is =
    ((tokens, split, ap (option_map (λ (t : Token). refusal UnsupportedWord t.spot (text_of s.bytes t))) found), there)

pub stop_found : (names : List (List ℕ)) (own : ℕ) (bytes : List ℕ) (last : List (List ℕ)) (told : Refusal) → IsRefused names own bytes last told → told.code ≢ UnsupportedWord →
    IsStop names (start_of own) bytes last (fault.Refused told)
stop_found names own bytes last told (answer.stopped code spot stops) other = (code, spot, refl, stops)
stop_found names own bytes last told (answer.unsupported tokens token split found) other = absurd (other refl)

-- a name that is put where it is changes no names
pub at_its_number : (P : List (List ℕ) → ℕ → Type 0) (names put : List (List ℕ)) (name : List ℕ) (own : ℕ) → has_name names name ≡ true → put ≡ with_name names name → own ≡ number_of names name → P put own →
    P names (number_of names name)
at_its_number P names put name own has is number holds =
    subst (P names) number (subst (λ l. P l own) (is ∙ with_itself names name has) holds)

-- ---- several sources

split_more : {names middle last : List (List ℕ)} {before : List Source} {lists : List (List Token)} (s : Source) (tokens : List Token) → AreSplit names before lists middle →
    Splits middle (start_of (number_of middle s.name)) s.bytes tokens last → AreSplit names (before ++ s ∷ []) (lists ++ tokens ∷ []) last
split_more s tokens nothing split = next split nothing
split_more s tokens (next first rest) split = next first (split_more s tokens rest split)

stops_behind : {names middle last : List (List ℕ)} {before rest : List Source} {lists : List (List Token)} {told : Refusal} → AreSplit names before lists middle → StopsIn middle rest told last →
    StopsIn names (before ++ rest) told last
stops_behind nothing stops = stops
stops_behind (next first others) stops = behind first (stops_behind others stops)

option_or-assoc : {A : Type 0} (a b c : Option A) → option_or a (option_or b c) ≡ option_or (option_or a b) c
option_or-assoc None b c = refl
option_or-assoc (Some x) b c = refl

option_or-none : {A : Type 0} (a : Option A) → option_or a None ≡ a
option_or-none None = refl
option_or-none (Some x) = refl

word_more : {names middle : List (List ℕ)} {before : List Source} {lists : List (List Token)} (s : Source) (tokens : List Token) → AreSplit names before lists middle →
    first_word (before ++ s ∷ []) (lists ++ tokens ∷ []) ≡ option_or (first_word before lists) (word_in s tokens)
word_more s tokens nothing = option_or-none (word_in s tokens)
word_more s tokens (next {s = first} {rest = before} {tokens = list} {lists = lists} split rest) =
    ap (option_or (word_in first list)) (word_more s tokens rest) ∙ option_or-assoc (word_in first list) (first_word before lists) (word_in s tokens)

inside_more : (before : List Source) (lists : List (List Token)) (s : Source) (tokens : List Token) → AreAllInside before lists → All (IsInside (length s.bytes)) tokens →
    AreAllInside (before ++ s ∷ []) (lists ++ tokens ∷ [])
inside_more [] [] s tokens all inside = (inside, tt)
inside_more [] (list ∷ lists) s tokens all inside = absurd all
inside_more (first ∷ before) [] s tokens all inside = absurd all
inside_more (first ∷ before) (list ∷ lists) s tokens all inside = (all.0, inside_more before lists s tokens all.1 inside)

-- ---- the files of tokens

last_has : {A : Type 0} (P : A → Type 0) (before : List A) (last : A) → All P (before ++ last ∷ []) → P last
last_has P [] last all = All-head P last [] all
last_has P (a ∷ before) last all = last_has P before last (All-tail P a (before ++ last ∷ []) all)

-- tokens of an answer stand in its files
pub filed_in : (bytes : List ℕ) (files : List (List ℕ)) (tokens : List Token) → AreTokensOf bytes files tokens → AreFiled (length files) tokens
filed_in bytes files tokens are =
    let last = last_has (λ (t : Token). t.spot.file < length files) are.ended.before are.ended.last (subst (All (λ (t : Token). t.spot.file < length files)) are.ended.all are.filed) in
    record { some = omega (arith, last); each = are.filed }

-- behind other names too
below_later : (now last : List (List ℕ)) (file : ℕ) → Extends now last → file < length now → file < length last
below_later now last file (more, is) below =
    let longer : length last ≡ length now + length more = ap length is ∙ length-append now more in
    omega (arith, longer, below)

filed_later : (now last : List (List ℕ)) (tokens : List Token) → Extends now last → AreFiled (length now) tokens → AreFiled (length last) tokens
filed_later now last tokens extends filed = record {
  some = below_later now last 0 extends filed.some;
  each = All-weaker (λ (t : Token). t.spot.file < length now) (λ (t : Token). t.spot.file < length last) (λ t below. below_later now last t.spot.file extends below) tokens filed.each;
}

-- the first of two refusals stands there, where each does
first_in : (files : ℕ) (word : Option Refusal) (later : Refusal) → ((told : Refusal) → word ≡ Some told → told.spot.file < files) → later.spot.file < files →
    (told : Refusal) → option_or word (Some later) ≡ Some told → told.spot.file < files
first_in files None later before there told is = subst (λ (r : Refusal). r.spot.file < files) (same_Some later told is) there
first_in files (Some word) later before there told is = before told is

-- These sources are split, with these lists, where no word is found in them. The rest is left.
pub record Upto (names : List (List ℕ)) (sources rest : List Source) (now : List (List ℕ)) (lists : List (List Token)) (word : Option Refusal) : Type 0 where
  pub before : List Source
  pub whole : sources ≡ before ++ rest
  pub all : List (List Token)
  pub split : AreSplit names before all now
  pub found : first_word before all ≡ word
  pub kept : word ≡ None → (all ≡ lists) × AreAllInside before all
  pub filed : All (AreFiled (length now)) lists
  pub word_in : (told : Refusal) → word ≡ Some told → told.spot.file < length now
  pub short : AreShort 1048576 rest
  pub named : AreNamed now rest

pub upto_none : (names : List (List ℕ)) (sources : List Source) → AreShort 1048576 sources → AreNamed names sources → Upto names sources sources names [] None
upto_none names sources short named =
    record { before = []; whole = refl; all = []; split = nothing; found = refl; kept = λ e. (refl, tt); filed = All-nil (AreFiled (length names)); word_in = λ told is. cc; short = short; named = named }

module _ (names : List (List ℕ)) (sources rest : List Source) (now : List (List ℕ)) (lists : List (List Token)) (word : Option Refusal) (upto : Upto names sources rest now lists word) where
  module _ (s : Source) (others : List Source) (left : rest ≡ s ∷ others) where
    pub next_short : length s.bytes ≤ 1048576
    next_short = All-head (λ (x : Source). length x.bytes ≤ 1048576) s others (subst (AreShort 1048576) left upto.short)

    pub next_named : has_name now s.name ≡ true
    next_named = All-head (λ (x : Source). has_name now x.name ≡ true) s others (subst (AreNamed now) left upto.named)

    whole_more : sources ≡ (upto.before ++ s ∷ []) ++ others
    whole_more = upto.whole ∙ (ap (λ l. upto.before ++ l) left ∙ sym (append_assoc upto.before (s ∷ []) others))

    short_more : AreShort 1048576 others
    short_more = All-tail (λ (x : Source). length x.bytes ≤ 1048576) s others (subst (AreShort 1048576) left upto.short)

    named_more : (last : List (List ℕ)) → Extends now last → AreNamed last others
    named_more last extends =
        All-weaker (λ (x : Source). has_name now x.name ≡ true) (λ (x : Source). has_name last x.name ≡ true) (λ x has. has_extended now last x.name extends has) others
        (All-tail (λ (x : Source). has_name now x.name ≡ true) s others (subst (AreNamed now) left upto.named))

    filed_more : (last : List (List ℕ)) → Extends now last → All (AreFiled (length last)) lists
    filed_more last extends = All-weaker (AreFiled (length now)) (AreFiled (length last)) (λ tokens filed. filed_later now last tokens extends filed) lists upto.filed

    word_later : (last : List (List ℕ)) → Extends now last → (told : Refusal) → word ≡ Some told → told.spot.file < length last
    word_later last extends told is = below_later now last told.spot.file extends (upto.word_in told is)

    pub upto_tokens : (last : List (List ℕ)) (tokens : List Token) → Extends now last → IsSplit now (number_of now s.name) s last (splits.Tokens tokens) →
        Upto names sources others last (lists ++ tokens ∷ []) word
    upto_tokens last tokens extends (split, supported, inside, filed) =
        let none : word_in s tokens ≡ None = ap (option_map (λ (t : Token). refusal UnsupportedWord t.spot (text_of s.bytes t))) supported in
        record {
          before = upto.before ++ s ∷ [];
          whole = whole_more;
          all = upto.all ++ tokens ∷ [];
          split = split_more s tokens upto.split split;
          found = word_more s tokens upto.split ∙ (ap (option_or (first_word upto.before upto.all)) none ∙ (option_or-none (first_word upto.before upto.all) ∙ upto.found));
          kept = λ e. (ap (λ l. l ++ tokens ∷ []) (upto.kept e).0, inside_more upto.before upto.all s tokens (upto.kept e).1 inside);
          filed = All-push (AreFiled (length last)) lists tokens (filed_more last extends) filed;
          word_in = word_later last extends;
          short = short_more;
          named = named_more last extends;
        }

    pub upto_word : (last : List (List ℕ)) (told : Refusal) (after : Option Refusal) → Extends now last → IsSplit now (number_of now s.name) s last (splits.Word told) → after ≡ option_or word (Some told) →
        Upto names sources others last lists after
    upto_word last told after extends ((tokens, split, is), there) kept_is =
        record {
          before = upto.before ++ s ∷ [];
          whole = whole_more;
          all = upto.all ++ tokens ∷ [];
          split = split_more s tokens upto.split split;
          found = word_more s tokens upto.split ∙ (ap (option_or (first_word upto.before upto.all)) is ∙ (ap (λ w. option_or w (Some told)) upto.found ∙ sym kept_is));
          kept = λ e. absurd (some_word word told (sym kept_is ∙ e));
          filed = filed_more last extends;
          word_in = λ r is. first_in (length last) word told (word_later last extends) there r (sym kept_is ∙ is);
          short = short_more;
          named = named_more last extends;
        }
      where
        some_word : (w : Option Refusal) (r : Refusal) → option_or w (Some r) ≡ None → ⊥
        some_word None r is = cc
        some_word (Some x) r is = cc

    pub upto_stop : (last : List (List ℕ)) (fault : Fault) → IsStop now (start_of (number_of now s.name)) s.bytes last fault → IsSplitFault names sources last fault
    upto_stop last fault.NoMemory stop = tt
    upto_stop last (fault.Refused told) (code, spot, is, stops) =
        inl (subst (λ r. StopsIn names sources r last) (sym is)
        (subst (λ l. StopsIn names l (refusal code spot []) last) (sym (upto.whole ∙ ap (λ l. upto.before ++ l) left)) (stops_behind upto.split (here code spot stops))))

  module _ (left : rest ≡ []) where
    all_before : upto.before ≡ sources
    all_before = sym (upto.whole ∙ (ap (λ l. upto.before ++ l) left ∙ append-nil upto.before))

    pub upto_refused : (told : Refusal) → word ≡ Some told → IsSplitFault names sources now (fault.Refused told)
    upto_refused told is =
        inr (upto.all, subst (λ l. AreSplit names l upto.all now) all_before upto.split, ap (λ l. first_word l upto.all) (sym all_before) ∙ (upto.found ∙ is))

    pub upto_split : word ≡ None → AreSplit names sources lists now
    upto_split none = subst (λ l. AreSplit names sources l now) (upto.kept none).0 (subst (λ l. AreSplit names l upto.all now) all_before upto.split)

    pub upto_supported : word ≡ None → first_word sources lists ≡ None
    upto_supported none = ap (first_word sources) (sym (upto.kept none).0) ∙ (ap (λ l. first_word l upto.all) (sym all_before) ∙ (upto.found ∙ none))

    pub upto_inside : word ≡ None → AreAllInside sources lists
    upto_inside none = subst (AreAllInside sources) (upto.kept none).0 (subst (λ l. AreAllInside l upto.all) all_before (upto.kept none).1)
