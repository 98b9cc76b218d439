-- All the words: `clap` takes them exactly where each may stand where it does, and has what they name.
use Rattle.std.proofs.Common.{◌≡◌, ◌∙◌, sym, subst, ℕ, Bool, true, false, List, [], ◌∷◌, Option, Some, None, is_some, refl}
use Rattle.std.specs.Prelude.{⊤, fold, option_and_then}
use Rattle.std.specs.Str.{bytes_eq, chars}
use Rattle.clap.specs.Faults.{check_fault, defaults_fault, fault_of, settle_fault, walk_fault}
use Rattle.clap.specs.Kinds.{Kinds, or_else}
use Rattle.clap.specs.Lexer.{long_of}
use Rattle.clap.specs.Simple.{Shape as Command, matches_of}
use Rattle.clap.specs.Walk.{Row, Waiting, Walk, finished, has_row, nothing_held, option, positional, settled, walk_from, walked}
use Rattle.lk_words.specs.Reading.{AreOptions}
use Rattle.lk_words.specs.Words.{Named, Shape, Stand, Wanted, Word, any_word, at_end, file_of, is_among, name_word, named_by, named_of, nothing_named, once, shape_of, stands, with_file, with_given, word_at}
use Rattle.lk_words.specs.Words.Shape.{End, Asks, Gives, Other, File}
use Rattle.lk_words.specs.Words.Wanted.{Any, FileOf, Source}
use Rattle.lk_words.proofs.Options.{Reads, app_for, reads, whole_of}
use Rattle.lk_words.proofs.Rows.{Holds, holds_file, holds_given}
use Rattle.lk_words.proofs.Shapes.{IsShape, shape_is, dashes}
use Rattle.lk_words.proofs.Turns.{Fails, IsBefore, IsFine, IsOwn, IsStuck, Pending, Turn, at, free, held_at, rows_after, end_turn, unnamed_end_turn, file_turn, source_turn, gives_turn, asks_turn, name_turn, unknown_fails, short_fails, again_fails, stuck_long_fails, stuck_file_fails, stuck_source_fails, faults, settles, unnamed_is_stuck, again_is_stuck, given_is_fine}
use Rattle.lk_words.proofs.Turns.Pending.{nothing, a_file, a_given, unnamed}

-- behind `-` stands a character
abbrev pub IsText : Word → Type 0
IsText word = (x : ℕ) (flags : Word) → word ≡ 45 ∷ x ∷ flags → (c : ℕ) × (cs : List ℕ) × (chars (x ∷ flags) ≡ c ∷ cs)

abbrev pub AreTexts : List Word → Type 0
AreTexts [] = ⊤
AreTexts (word ∷ words) = IsText word × AreTexts words

first_empty : (a b : Kinds) → or_else a b ≡ [] → a ≡ []
first_empty [] b e = refl
first_empty (k ∷ a) b e = cc

second_empty : (a b : Kinds) → or_else a b ≡ [] → b ≡ []
second_empty [] b e = e
second_empty (k ∷ a) b e = cc

-- the kinds of error of the words that are left
abbrev pub level : Command → Walk → List Word → Bool → Kinds → Kinds
level whole w words entered below =
    let end = (fold (walked whole.rules []) w words).held in
    or_else (walk_fault whole [] w words)
    (or_else below (or_else (settle_fault whole.rules whole.args_override_self end)
    (or_else (defaults_fault (settled whole.rules end).rows whole.rules) (check_fault whole (finished whole.rules end) entered))))

module _ (options : List Word) (whole : Command) (reading : Reads options whole) where
  abbrev Passes : Walk → Word → Walk → Type 0
  Passes = Turn options whole reading

  abbrev Stops : Walk → Word → Type 0
  Stops = Fails options whole reading

  -- ---- at the end

  ends : (rows : List Row) (p : Pending) (waiting : Waiting) (trailing : Bool) → IsOwn options p → IsFine rows p → level whole (at rows p waiting trailing) [] false [] ≡ []
  unfolding walk_fault
  ends rows p waiting trailing own fine =
      rw (
        faults options whole reading rows p own ∙ fine,
        reading.defaults_pass (settled whole.rules (held_at rows p)).rows,
        reading.check_passes (finished whole.rules (held_at rows p)) false,
      ) refl

  finishes : (rows : List Row) (p : Pending) → IsOwn options p → finished whole.rules (held_at rows p) ≡ rows_after rows p
  finishes rows p own = reading.no_default (settled whole.rules (held_at rows p)).rows ∙ settles options whole reading rows p own

  -- ---- refused words

  abbrev IsRefused : Walk → List Word → Type 0
  IsRefused w words = (entered : Bool) (below : Kinds) → level whole w words entered below ≡ [] → ⊥

  fails_now : (w : Walk) (word : Word) (words : List Word) → Stops w word → IsRefused w (word ∷ words)
  unfolding walk_fault
  fails_now w word words fails entered below e = fails (first_empty _ _ (first_empty _ _ e))

  fails_later : (w next : Walk) (word : Word) (words : List Word) → Passes w word next → IsRefused next words → IsRefused w (word ∷ words)
  unfolding walk_fault
  fails_later w next word words turn refused entered below e = refused entered below (rw (turn.passes, turn.walks, fold) at e)

  stuck_end : (rows : List Row) (p : Pending) (waiting : Waiting) (trailing : Bool) → IsOwn options p → IsStuck rows p → IsRefused (at rows p waiting trailing) []
  unfolding walk_fault
  stuck_end rows p waiting trailing own stuck entered below e =
      let empty : settle_fault whole.rules whole.args_override_self (held_at rows p) ≡ [] = first_empty _ _ (second_empty below _ e) in
      let bad = rw (faults options whole reading rows p own ∙ stuck.2) at empty in
      cc

  -- ---- what a short option begins with

  other_fails : (rows : List Row) (p : Pending) (waiting : Waiting) (word : Word) → IsBefore waiting → IsText word → IsShape word Other → Stops (at rows p waiting false) word
  other_fails rows p waiting word before text (IsShape.short x flags e l s is) =
      let first = text x flags is in
      short_fails options whole reading rows p waiting word flags x first.0 first.1 before e l s first.2

  -- ---- what is stuck stays stuck

  stuck_source : (words : List Word) (rows : List Row) (p : Pending) (waiting : Waiting) → IsOwn options p → IsStuck rows p → IsRefused (at rows p waiting true) words
  stuck_source [] rows p waiting own stuck = stuck_end rows p waiting true own stuck
  stuck_source (word ∷ words) rows p waiting own stuck = fails_now _ word words (stuck_source_fails options whole reading rows p waiting word own stuck)

  stuck_word : (rows : List Row) (p : Pending) (a : Bool) (word : Word) (words : List Word) (s : Shape) → IsShape word s → IsText word → IsOwn options p → IsStuck rows p
      → IsRefused (at rows p (free a) false) (word ∷ words)
  stuck_word rows p a word words End (IsShape.end e) text own stuck =
      fails_later _ _ word words (end_turn options whole reading rows p a word e) (stuck_source words rows p (free a) own stuck)
  stuck_word rows p a word words File (IsShape.plain e l s) text own stuck = fails_now _ word words (stuck_file_fails options whole reading rows p a word e l s own stuck)
  stuck_word rows p a word words (Asks _) (IsShape.asks o e l) text own stuck =
      fails_now _ word words (stuck_long_fails options whole reading rows p (free a) word o None (IsBefore.is_free a) e l own stuck)
  stuck_word rows p a word words (Gives _ _) (IsShape.gives o f e l) text own stuck =
      fails_now _ word words (stuck_long_fails options whole reading rows p (free a) word o (Some f) (IsBefore.is_free a) e l own stuck)
  stuck_word rows p a word words Other shape text own stuck = fails_now _ word words (other_fails rows p (free a) word (IsBefore.is_free a) text shape)

  stuck_free : (words : List Word) (rows : List Row) (p : Pending) (a : Bool) → AreTexts words → IsOwn options p → IsStuck rows p → IsRefused (at rows p (free a) false) words
  stuck_free [] rows p a texts own stuck = stuck_end rows p (free a) false own stuck
  stuck_free (word ∷ words) rows p a texts own stuck = stuck_word rows p a word words (shape_of word) (shape_is word) (texts.0) own stuck

  -- behind an option stands the name of a file
  waiting_fails : (rows : List Row) (o word : Word) (s : Shape) → is_among options o ≡ true → IsShape word s → IsText word → (s ≡ File → ⊥) → (s ≡ End → ⊥)
      → Stops (at rows (unnamed o) (option o) false) word
  waiting_fails rows o word End among shape text no_file no_end = absurd (no_end refl)
  waiting_fails rows o word File among shape text no_file no_end = absurd (no_file refl)
  waiting_fails rows o word (Asks _) among (IsShape.asks x e l) text no_file no_end =
      stuck_long_fails options whole reading rows (unnamed o) (option o) word x None (IsBefore.is_waiting o) e l among (unnamed_is_stuck rows o)
  waiting_fails rows o word (Gives _ _) among (IsShape.gives x f e l) text no_file no_end =
      stuck_long_fails options whole reading rows (unnamed o) (option o) word x (Some f) (IsBefore.is_waiting o) e l among (unnamed_is_stuck rows o)
  waiting_fails rows o word Other among shape text no_file no_end = other_fails rows (unnamed o) (option o) word (IsBefore.is_waiting o) text shape

  again_word : (rows : List Row) (o word : Word) (words : List Word) (s : Shape) → is_among options o ≡ true → IsShape word s → AreTexts (word ∷ words) → has_row o rows ≡ true
      → IsRefused (at rows (unnamed o) (option o) false) (word ∷ words)
  again_word rows o word words End among (IsShape.end e) texts again =
      fails_later _ _ word words (unnamed_end_turn options whole reading rows o word e) (stuck_source words rows (unnamed o) (option o) among (unnamed_is_stuck rows o))
  again_word rows o word words File among (IsShape.plain e l s) texts again =
      fails_later _ _ word words (name_turn options whole reading rows o word e l s among) (stuck_free words rows (a_given o word) false (texts.1) among (again_is_stuck rows o word again))
  again_word rows o word words (Asks x) among shape texts again = fails_now _ word words (waiting_fails rows o word (Asks x) among shape (texts.0) (λ e. cc) (λ e. cc))
  again_word rows o word words (Gives x f) among shape texts again = fails_now _ word words (waiting_fails rows o word (Gives x f) among shape (texts.0) (λ e. cc) (λ e. cc))
  again_word rows o word words Other among shape texts again = fails_now _ word words (waiting_fails rows o word Other among shape (texts.0) (λ e. cc) (λ e. cc))

  again_waiting : (words : List Word) (rows : List Row) (o : Word) → is_among options o ≡ true → AreTexts words → has_row o rows ≡ true → IsRefused (at rows (unnamed o) (option o) false) words
  again_waiting [] rows o among texts again = stuck_end rows (unnamed o) (option o) false among (unnamed_is_stuck rows o)
  again_waiting (word ∷ words) rows o among texts again = again_word rows o word words (shape_of word) among (shape_is word) texts again

  -- ---- what is taken

  pub record IsTaken (named : Named) (w : Walk) (words : List Word) : Type 0 where
    pub stops : (fold (walked whole.rules []) w words).stopped ≡ None
    pub fine : level whole w words false [] ≡ []
    pub holds : Holds named (finished whole.rules (fold (walked whole.rules []) w words).held)

  -- `clap` refuses the words where they name nothing, and has what they name
  abbrev pub Fate : Option Named → Walk → List Word → Type 0
  Fate None w words = IsRefused w words
  Fate (Some named) w words = IsTaken named w words

  later : (o : Option Named) (w next : Walk) (word : Word) (words : List Word) → Passes w word next → Fate o next words → Fate o w (word ∷ words)
  unfolding walk_fault
  later None w next word words turn refused = fails_later w next word words turn refused
  later (Some named) w next word words turn taken = record {
    stops = rw (turn.walks, fold) taken.stops;
    fine = rw (turn.passes, turn.walks, fold) taken.fine;
    holds = rw (turn.walks, fold) taken.holds;
  }

  -- what is pending can be put in, and then the rows hold what was named
  pub record Settles (named : Named) (rows : List Row) (p : Pending) : Type 0 where
    pub own : IsOwn options p
    pub fine : IsFine rows p
    pub holds : Holds named (rows_after rows p)

  -- an option that is none of these, or that is given
  pub record IsNew (named : Named) (o : Word) : Type 0 where
    pub among : is_among options o ≡ true
    pub new : is_some (file_of o named) ≡ false

  -- where `clap` stands
  pub data Stands : Named → Wanted → Walk → Type 0 where
    at_any : (named : Named) (rows : List Row) (p : Pending) (a : Bool) → Settles named rows p → Stands named Any (at rows p (free a) false)
    at_name : (named : Named) (o : Word) (rows : List Row) → Holds named rows → IsNew named o → Stands named (FileOf o) (at rows (unnamed o) (option o) false)
    at_source : (named : Named) (rows : List Row) (p : Pending) (waiting : Waiting) → Settles named rows p → Stands named Source (at rows p waiting true)

  settles_file : (named : Named) (rows : List Row) (word : Word) → Holds named rows → Settles (with_file named word) rows (a_file word)
  settles_file named rows word holds = record { own = tt; fine = refl; holds = holds_file named rows word holds }

  -- a row of the option stands exactly where it is given
  row_is : (named : Named) (o : Word) (rows : List Row) → Holds named rows → is_among options o ≡ true → has_row o rows ≡ is_some (file_of o named)
  row_is named o rows holds among = holds.has o (reading.apart o among)

  settles_given : (named : Named) (o : Word) (rows : List Row) (word : Word) → Holds named rows → IsNew named o → Settles (with_given named o word) rows (a_given o word)
  settles_given named o rows word holds new = record {
    own = new.among;
    fine = given_is_fine rows o word (row_is named o rows holds new.among ∙ new.new);
    holds = holds_given named rows o word holds (reading.apart o new.among) new.new;
  }

  settled_end : (named : Named) (rows : List Row) (p : Pending) (waiting : Waiting) (trailing : Bool) → Settles named rows p → IsTaken named (at rows p waiting trailing) []
  settled_end named rows p waiting trailing fits = record {
    stops = refl;
    fine = ends rows p waiting trailing fits.own fits.fine;
    holds = subst (Holds named) (sym (finishes rows p fits.own)) fits.holds;
  }

  abbrev pub Later : List Word → Type 0
  Later words = (named : Named) (wanted : Wanted) (w : Walk) → Stands named wanted w → Fate (named_by options (stands named wanted) words) w words

  -- the words after this one, where it may stand
  abbrev pub from : List Word → Option Stand → Option Named
  from words = option_and_then (λ next. named_by options next words)

  asks_fate : (named : Named) (rows : List Row) (p : Pending) (a : Bool) (word o : Word) (words : List Word) (among given : Bool) → is_among options o ≡ among
      → is_some (file_of o named) ≡ given → Settles named rows p → bytes_eq word dashes ≡ false → long_of word ≡ Some (o, None) → AreTexts words → Later words
      → Fate (from words (once options named o (stands named (FileOf o)))) (at rows p (free a) false) (word ∷ words)
  asks_fate named rows p a word o words false given is has fits e l texts next =
      rw is (fails_now _ word words (unknown_fails options whole reading rows p (free a) word o None (IsBefore.is_free a) e l is))
  asks_fate named rows p a word o words true true is has fits e l texts next =
      rw (is, has) (fails_later _ _ word words (asks_turn options whole reading rows p a word o e l is fits.own fits.fine)
      (again_waiting words (rows_after rows p) o is texts (row_is named o (rows_after rows p) fits.holds is ∙ has)))
  asks_fate named rows p a word o words true false is has fits e l texts next =
      rw (is, has) (later _ _ _ word words (asks_turn options whole reading rows p a word o e l is fits.own fits.fine)
      (next named (FileOf o) _ (Stands.at_name named o (rows_after rows p) fits.holds (record { among = is; new = has }))))

  gives_fate : (named : Named) (rows : List Row) (p : Pending) (a : Bool) (word o f : Word) (words : List Word) (among given : Bool) → is_among options o ≡ among
      → is_some (file_of o named) ≡ given → Settles named rows p → bytes_eq word dashes ≡ false → long_of word ≡ Some (o, Some f) → Later words
      → Fate (from words (once options named o (stands (with_given named o f) Any))) (at rows p (free a) false) (word ∷ words)
  gives_fate named rows p a word o f words false given is has fits e l next =
      rw is (fails_now _ word words (unknown_fails options whole reading rows p (free a) word o (Some f) (IsBefore.is_free a) e l is))
  gives_fate named rows p a word o f words true true is has fits e l next =
      rw (is, has) (fails_now _ word words (again_fails options whole reading rows p a word o f e l is fits.own fits.fine (row_is named o (rows_after rows p) fits.holds is ∙ has)))
  gives_fate named rows p a word o f words true false is has fits e l next =
      rw (is, has) (later _ _ _ word words (gives_turn options whole reading rows p a word o f e l is fits.own fits.fine (row_is named o (rows_after rows p) fits.holds is ∙ has))
      (next (with_given named o f) Any _ (Stands.at_any (with_given named o f) _ nothing false
      (record { own = tt; fine = refl; holds = holds_given named (rows_after rows p) o f fits.holds (reading.apart o is) has }))))

  any_fate : (named : Named) (rows : List Row) (p : Pending) (a : Bool) (word : Word) (words : List Word) (s : Shape) → IsShape word s → AreTexts (word ∷ words)
      → Settles named rows p → Later words → Fate (from words (any_word options named word s)) (at rows p (free a) false) (word ∷ words)
  any_fate named rows p a word words End (IsShape.end e) texts fits next =
      later _ _ _ word words (end_turn options whole reading rows p a word e) (next named Source _ (Stands.at_source named rows p (free a) fits))
  any_fate named rows p a word words File (IsShape.plain e l s) texts fits next =
      later _ _ _ word words (file_turn options whole reading rows p a word e l s fits.own fits.fine)
      (next (with_file named word) Any _ (Stands.at_any (with_file named word) (rows_after rows p) (a_file word) true (settles_file named (rows_after rows p) word fits.holds)))
  any_fate named rows p a word words (Asks _) (IsShape.asks o e l) texts fits next =
      asks_fate named rows p a word o words (is_among options o) (is_some (file_of o named)) refl refl fits e l (texts.1) next
  any_fate named rows p a word words (Gives _ _) (IsShape.gives o f e l) texts fits next =
      gives_fate named rows p a word o f words (is_among options o) (is_some (file_of o named)) refl refl fits e l next
  any_fate named rows p a word words Other shape texts fits next = fails_now _ word words (other_fails rows p (free a) word (IsBefore.is_free a) (texts.0) shape)

  name_fate : (named : Named) (o : Word) (rows : List Row) (word : Word) (words : List Word) (s : Shape) → IsShape word s → AreTexts (word ∷ words)
      → Holds named rows → IsNew named o → Later words → Fate (from words (name_word named o word s)) (at rows (unnamed o) (option o) false) (word ∷ words)
  name_fate named o rows word words End (IsShape.end e) texts holds new next =
      fails_later _ _ word words (unnamed_end_turn options whole reading rows o word e) (stuck_source words rows (unnamed o) (option o) new.among (unnamed_is_stuck rows o))
  name_fate named o rows word words File (IsShape.plain e l s) texts holds new next =
      later _ _ _ word words (name_turn options whole reading rows o word e l s new.among)
      (next (with_given named o word) Any _ (Stands.at_any (with_given named o word) rows (a_given o word) false (settles_given named o rows word holds new)))
  name_fate named o rows word words (Asks x) shape texts holds new next = fails_now _ word words (waiting_fails rows o word (Asks x) new.among shape (texts.0) (λ e. cc) (λ e. cc))
  name_fate named o rows word words (Gives x f) shape texts holds new next = fails_now _ word words (waiting_fails rows o word (Gives x f) new.among shape (texts.0) (λ e. cc) (λ e. cc))
  name_fate named o rows word words Other shape texts holds new next = fails_now _ word words (waiting_fails rows o word Other new.among shape (texts.0) (λ e. cc) (λ e. cc))

  no_words : (named : Named) (wanted : Wanted) (w : Walk) → Stands named wanted w → Fate (at_end named wanted) w []
  no_words named Any _ (Stands.at_any _ rows p a fits) = settled_end named rows p (free a) false fits
  no_words named (FileOf _) _ (Stands.at_name _ o rows holds new) = stuck_end rows (unnamed o) (option o) false new.among (unnamed_is_stuck rows o)
  no_words named Source _ (Stands.at_source _ rows p waiting fits) = settled_end named rows p waiting true fits

  one_more : (named : Named) (wanted : Wanted) (w : Walk) (word : Word) (words : List Word) → AreTexts (word ∷ words) → Stands named wanted w → Later words
      → Fate (from words (word_at options named wanted word)) w (word ∷ words)
  one_more named Any _ word words texts (Stands.at_any _ rows p a fits) next = any_fate named rows p a word words (shape_of word) (shape_is word) texts fits next
  one_more named (FileOf _) _ word words texts (Stands.at_name _ o rows holds new) next = name_fate named o rows word words (shape_of word) (shape_is word) texts holds new next
  one_more named Source _ word words texts (Stands.at_source _ rows p waiting fits) next =
      later _ _ _ word words (source_turn options whole reading rows p waiting word fits.own fits.fine)
      (next (with_file named word) Source _ (Stands.at_source (with_file named word) (rows_after rows p) (a_file word) positional (settles_file named (rows_after rows p) word fits.holds)))

  pub all_words : (words : List Word) → AreTexts words → Later words
  unfolding named_by
  all_words [] texts named wanted w at = no_words named wanted w at
  all_words (word ∷ words) texts named wanted w at = one_more named wanted w word words texts at (all_words words (texts.1))

  begins : Stands nothing_named Any (walk_from nothing_held)
  begins = Stands.at_any nothing_named [] nothing false (record {
    own = tt;
    fine = refl;
    holds = record { first = λ name apart. refl; has = λ name apart. refl; files = refl };
  })

  pub fate : (words : List Word) → AreTexts words → Fate (named_of options words) (walk_from nothing_held) words
  fate words texts = all_words words texts nothing_named Any (walk_from nothing_held) begins

-- ---- what `clap` says of the words

module _ (options : List Word) (are : AreOptions options) where
  abbrev pub Tells : Option Named → List Word → Type 0
  Tells None words = fault_of (app_for options) words ≡ [] → ⊥
  Tells (Some named) words = (fault_of (app_for options) words ≡ []) × Holds named (matches_of (app_for options) words)

  told : (words : List Word) (o : Option Named) → Fate options (whole_of options) (reads options are) o (walk_from nothing_held) words → Tells o words
  told words None refused = refused _ _
  told words (Some named) taken = (rw taken.stops taken.fine, taken.holds)

  pub tells : (words : List Word) → AreTexts words → Tells (named_of options words) words
  tells words texts = told words (named_of options words) (fate options (whole_of options) (reads options are) words texts)
