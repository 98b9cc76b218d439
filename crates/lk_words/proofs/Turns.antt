-- One word more: where `clap` stands before and after it.
use Rattle.std.proofs.Common.{◌≡◌, ◌∙◌, ℕ, Bool, true, false, ◌&&◌, List, [], ◌∷◌, Option, Some, None, refl, if◌then◌else◌}
use Rattle.std.specs.Prelude.{⊤}
use Rattle.std.specs.Str.{bytes_eq, chars}
use Rattle.std.proofs.lemmas.Slice.Eq.{bytes_eq-Decides}
use Rattle.clap.specs.Faults.{settle_fault, turn_fault, flags_fault}
use Rattle.clap.specs.Kinds.{Kinds}
use Rattle.clap.specs.Lexer.{long_of, short_of}
use Rattle.clap.specs.Simple.{Shape as Command}
use Rattle.clap.specs.Walk.{Held, Row, Text, Waiting, Walk, has_row, idle, is_pending, option, positional, settled_rows, takes_several, walked, with_values, without}
use Rattle.clap.specs.declared.error.kind.ErrorKind.{ErrorKind}
use Rattle.clap.specs.declared.error.kind.ErrorKind.TheVariants.{ArgumentConflict, InvalidValue}
use Rattle.clap.specs.declared.parser.matches.ValueSource.TheVariants.{CommandLine}
use Rattle.lk_words.specs.Words.{Word, is_among}
use Rattle.lk_words.proofs.Options.{Reads, as_files, file_id, how}
use Rattle.lk_words.proofs.Rows.{with_use}
use Rattle.lk_words.proofs.Shapes.{dashes}

-- what was read and isn't in the rows yet: nothing, a file, the file that an option names, or an option without it
pub data Pending : Type 0 where
  nothing : Pending
  a_file : Word → Pending
  a_given : Word → Word → Pending
  unnamed : Word → Pending

abbrev pub pending_text : Pending → Option (Text × List Text)
pending_text nothing = None
pending_text (a_file f) = Some (file_id, f ∷ [])
pending_text (a_given o v) = Some (o, v ∷ [])
pending_text (unnamed o) = Some (o, [])

abbrev pub held_at : List Row → Pending → Held
held_at rows p = record { rows = rows; pending = pending_text p; skip = 0 }

abbrev pub at : List Row → Pending → Waiting → Bool → Walk
at rows p waiting trailing = record { held = held_at rows p; waiting = waiting; position = 1; is_trailing = trailing; stopped = None }

-- nothing waits for a value of an option
abbrev pub free : Bool → Waiting
free true = positional
free false = idle

-- the option is one of these
abbrev pub IsOwn : List Word → Pending → Type 0
IsOwn options nothing = ⊤
IsOwn options (a_file f) = ⊤
IsOwn options (a_given o v) = is_among options o ≡ true
IsOwn options (unnamed o) = is_among options o ≡ true

-- the rows once what is pending is put in
abbrev pub rows_after : List Row → Pending → List Row
rows_after rows nothing = rows
rows_after rows (a_file f) = with_use file_id f rows
rows_after rows (a_given o v) = with_use o v (without o rows)
rows_after rows (unnamed o) = with_values o how CommandLine [] (without o rows)

-- why it can't be put in
abbrev pub kinds_at : List Row → Pending → Kinds
kinds_at rows nothing = []
kinds_at rows (a_file f) = []
kinds_at rows (a_given o v) = if has_row o rows then ArgumentConflict ∷ [] else []
kinds_at rows (unnamed o) = InvalidValue ∷ []

-- it can, or not
abbrev pub IsFine : List Row → Pending → Type 0
IsFine rows p = kinds_at rows p ≡ []

abbrev pub IsStuck : List Row → Pending → Type 0
IsStuck rows p = (k : ErrorKind) × (ks : Kinds) × (kinds_at rows p ≡ k ∷ ks)

-- where no argument is behind `--`, and nothing but an option is waited for
pub data IsBefore : Waiting → Type 0 where
  is_free : (a : Bool) → IsBefore (free a)
  is_waiting : (o : Word) → IsBefore (option o)

pub unnamed_is_stuck : (rows : List Row) (o : Word) → IsStuck rows (unnamed o)
unnamed_is_stuck rows o = (_, _, refl)

pub again_is_stuck : (rows : List Row) (o v : Word) → has_row o rows ≡ true → IsStuck rows (a_given o v)
again_is_stuck rows o v again = (ArgumentConflict, [], rw again refl)

pub given_is_fine : (rows : List Row) (o v : Word) → has_row o rows ≡ false → IsFine rows (a_given o v)
given_is_fine rows o v new = rw new refl

same_self : (a : Text) → bytes_eq a a ≡ true
same_self a = (bytes_eq-Decides a a).1 refl

module _ (options : List Word) (whole : Command) (reads : Reads options whole) where
  pub record Turn (w : Walk) (word : Word) (next : Walk) : Type 0 where
    pub walks : walked whole.rules [] w word ≡ next
    pub passes : turn_fault whole [] w word ≡ []

  -- a word at which `clap` fails
  abbrev pub Fails : Walk → Word → Type 0
  Fails w word = turn_fault whole [] w word ≡ [] → ⊥

  pub settles : (rows : List Row) (p : Pending) → IsOwn options p → settled_rows whole.rules (pending_text p) rows ≡ rows_after rows p
  settles rows nothing own = refl
  settles rows (a_file f) own = rw reads.by_file refl
  settles rows (a_given o v) own = rw (reads.by_id o own) refl
  settles rows (unnamed o) own = rw (reads.by_id o own) refl

  given_faults : (rows : List Row) (o v : Word) → is_among options o ≡ true → (t : Bool) → has_row o rows ≡ t
      → settle_fault whole.rules whole.args_override_self (held_at rows (a_given o v)) ≡ kinds_at rows (a_given o v)
  given_faults rows o v own true t = rw (reads.by_id o own, reads.single, t) refl
  given_faults rows o v own false t = rw (reads.by_id o own, reads.single, t) refl

  pub faults : (rows : List Row) (p : Pending) → IsOwn options p → settle_fault whole.rules whole.args_override_self (held_at rows p) ≡ kinds_at rows p
  faults rows nothing own = refl
  faults rows (a_file f) own = rw reads.by_file refl
  faults rows (a_given o v) own = given_faults rows o v own (has_row o rows) refl
  faults rows (unnamed o) own = rw (reads.by_id o own) refl

  -- a word more of the files is none of a value with several words
  one_word : (rows : List Row) (p : Pending) → IsOwn options p → (is_pending as_files (pending_text p) && takes_several as_files) ≡ false
  one_word rows nothing own = refl
  one_word rows (a_file f) own = refl
  one_word rows (a_given o v) own = rw (reads.apart o own) refl
  one_word rows (unnamed o) own = rw (reads.apart o own) refl

  -- ---- the turns

  -- `--`
  pub end_turn : (rows : List Row) (p : Pending) (a : Bool) (word : Word) → bytes_eq word dashes ≡ true → Turn (at rows p (free a) false) word (at rows p (free a) true)
  unfolding walked
  end_turn rows p true word e = record { walks = rw e refl; passes = rw e refl }
  end_turn rows p false word e = record { walks = rw e refl; passes = rw e refl }

  -- `--` behind an option
  pub unnamed_end_turn : (rows : List Row) (o word : Word) → bytes_eq word dashes ≡ true
      → Turn (at rows (unnamed o) (option o) false) word (at rows (unnamed o) (option o) true)
  unfolding walked
  unnamed_end_turn rows o word e = record { walks = rw e refl; passes = rw e refl }

  -- a FILE
  pub file_turn : (rows : List Row) (p : Pending) (a : Bool) (word : Word) → bytes_eq word dashes ≡ false → long_of word ≡ None → short_of word ≡ None
      → IsOwn options p → IsFine rows p → Turn (at rows p (free a) false) word (at (rows_after rows p) (a_file word) positional false)
  unfolding walked
  file_turn rows p true word e l s own fine = record {
    walks = rw (e, l, s, reads.by_index, one_word rows p own, settles rows p own) refl;
    passes = rw (e, l, s, reads.by_index, one_word rows p own) (faults rows p own ∙ fine);
  }
  file_turn rows p false word e l s own fine = record {
    walks = rw (e, l, s, reads.by_index, one_word rows p own, settles rows p own) refl;
    passes = rw (e, l, s, reads.by_index, one_word rows p own) (faults rows p own ∙ fine);
  }

  -- any word behind `--`
  pub source_turn : (rows : List Row) (p : Pending) (waiting : Waiting) (word : Word) → IsOwn options p → IsFine rows p
      → Turn (at rows p waiting true) word (at (rows_after rows p) (a_file word) positional true)
  unfolding walked
  source_turn rows p waiting word own fine = record {
    walks = rw (reads.by_index, one_word rows p own, settles rows p own) refl;
    passes = rw (reads.by_index, one_word rows p own) (faults rows p own ∙ fine);
  }

  -- `--NAME=FILE`, where no `--NAME` came before
  pub gives_turn : (rows : List Row) (p : Pending) (a : Bool) (word o f : Word) → bytes_eq word dashes ≡ false → long_of word ≡ Some (o, Some f)
      → is_among options o ≡ true → IsOwn options p → IsFine rows p → has_row o (rows_after rows p) ≡ false
      → Turn (at rows p (free a) false) word (at (with_use o f (without o (rows_after rows p))) nothing idle false)
  unfolding walked
  gives_turn rows p true word o f e l among own fine new = record {
    walks = rw (e, l, reads.by_long o, among, settles rows p own) refl;
    passes = rw (e, l, reads.by_long o, among, faults rows p own ∙ fine, settles rows p own, new) refl;
  }
  gives_turn rows p false word o f e l among own fine new = record {
    walks = rw (e, l, reads.by_long o, among, settles rows p own) refl;
    passes = rw (e, l, reads.by_long o, among, faults rows p own ∙ fine, settles rows p own, new) refl;
  }

  -- `--NAME`
  pub asks_turn : (rows : List Row) (p : Pending) (a : Bool) (word o : Word) → bytes_eq word dashes ≡ false → long_of word ≡ Some (o, None)
      → is_among options o ≡ true → IsOwn options p → IsFine rows p
      → Turn (at rows p (free a) false) word (at (rows_after rows p) (unnamed o) (option o) false)
  unfolding walked
  asks_turn rows p true word o e l among own fine = record {
    walks = rw (e, l, reads.by_long o, among, settles rows p own) refl;
    passes = rw (e, l, reads.by_long o, among, faults rows p own ∙ fine) refl;
  }
  asks_turn rows p false word o e l among own fine = record {
    walks = rw (e, l, reads.by_long o, among, settles rows p own) refl;
    passes = rw (e, l, reads.by_long o, among, faults rows p own ∙ fine) refl;
  }

  -- the file behind an option
  pub name_turn : (rows : List Row) (o word : Word) → bytes_eq word dashes ≡ false → long_of word ≡ None → short_of word ≡ None → is_among options o ≡ true
      → Turn (at rows (unnamed o) (option o) false) word (at rows (a_given o word) idle false)
  unfolding walked
  name_turn rows o word e l s among = record {
    walks = rw (e, l, s, reads.by_id o among, same_self o) refl;
    passes = rw (e, l, s) refl;
  }

  -- ---- the failures

  pub unknown_fails : (rows : List Row) (p : Pending) (waiting : Waiting) (word o : Word) (value : Option Word) → IsBefore waiting → bytes_eq word dashes ≡ false
      → long_of word ≡ Some (o, value) → is_among options o ≡ false → Fails (at rows p waiting false) word
  unfolding walked
  unknown_fails rows p _ word o value (is_free true) e l other fine = let bad = rw (e, l, reads.by_long o, other) at fine in cc
  unknown_fails rows p _ word o value (is_free false) e l other fine = let bad = rw (e, l, reads.by_long o, other) at fine in cc
  unknown_fails rows p _ word o value (is_waiting x) e l other fine = let bad = rw (e, l, reads.by_long o, other) at fine in cc

  pub short_fails : (rows : List Row) (p : Pending) (waiting : Waiting) (word flags : Word) (x c : ℕ) (cs : List ℕ) → IsBefore waiting → bytes_eq word dashes ≡ false
      → long_of word ≡ None → short_of word ≡ Some (x ∷ flags) → chars (x ∷ flags) ≡ c ∷ cs → Fails (at rows p waiting false) word
  unfolding walked flags_fault
  short_fails rows p _ word flags x c cs (is_free true) e l s first fine = let bad = rw (e, l, s, first, reads.by_short c) at fine in cc
  short_fails rows p _ word flags x c cs (is_free false) e l s first fine = let bad = rw (e, l, s, first, reads.by_short c) at fine in cc
  short_fails rows p _ word flags x c cs (is_waiting o) e l s first fine = let bad = rw (e, l, s, first, reads.by_short c) at fine in cc

  -- a second `--NAME=FILE`
  pub again_fails : (rows : List Row) (p : Pending) (a : Bool) (word o f : Word) → bytes_eq word dashes ≡ false → long_of word ≡ Some (o, Some f)
      → is_among options o ≡ true → IsOwn options p → IsFine rows p → has_row o (rows_after rows p) ≡ true → Fails (at rows p (free a) false) word
  unfolding walked
  again_fails rows p true word o f e l among own fits again fine =
      let bad = rw (e, l, reads.by_long o, among, faults rows p own ∙ fits, settles rows p own, again, reads.single) at fine in cc
  again_fails rows p false word o f e l among own fits again fine =
      let bad = rw (e, l, reads.by_long o, among, faults rows p own ∙ fits, settles rows p own, again, reads.single) at fine in cc

  -- ---- where what is pending can't be put in

  stuck_gives_fails : (rows : List Row) (p : Pending) (waiting : Waiting) (word o f : Word) → IsBefore waiting → bytes_eq word dashes ≡ false
      → long_of word ≡ Some (o, Some f) → is_among options o ≡ true → IsOwn options p → IsStuck rows p → Fails (at rows p waiting false) word
  unfolding walked
  stuck_gives_fails rows p _ word o f (is_free true) e l among own stuck fine = let bad = rw (e, l, reads.by_long o, among, faults rows p own ∙ stuck.2) at fine in cc
  stuck_gives_fails rows p _ word o f (is_free false) e l among own stuck fine = let bad = rw (e, l, reads.by_long o, among, faults rows p own ∙ stuck.2) at fine in cc
  stuck_gives_fails rows p _ word o f (is_waiting x) e l among own stuck fine = let bad = rw (e, l, reads.by_long o, among, faults rows p own ∙ stuck.2) at fine in cc

  stuck_asks_fails : (rows : List Row) (p : Pending) (waiting : Waiting) (word o : Word) → IsBefore waiting → bytes_eq word dashes ≡ false
      → long_of word ≡ Some (o, None) → is_among options o ≡ true → IsOwn options p → IsStuck rows p → Fails (at rows p waiting false) word
  unfolding walked
  stuck_asks_fails rows p _ word o (is_free true) e l among own stuck fine = let bad = rw (e, l, reads.by_long o, among, faults rows p own ∙ stuck.2) at fine in cc
  stuck_asks_fails rows p _ word o (is_free false) e l among own stuck fine = let bad = rw (e, l, reads.by_long o, among, faults rows p own ∙ stuck.2) at fine in cc
  stuck_asks_fails rows p _ word o (is_waiting x) e l among own stuck fine = let bad = rw (e, l, reads.by_long o, among, faults rows p own ∙ stuck.2) at fine in cc

  known_fails : (rows : List Row) (p : Pending) (waiting : Waiting) (word o : Word) (value : Option Word) → IsBefore waiting → bytes_eq word dashes ≡ false
      → long_of word ≡ Some (o, value) → is_among options o ≡ true → IsOwn options p → IsStuck rows p → Fails (at rows p waiting false) word
  known_fails rows p waiting word o (Some f) before e l among own stuck = stuck_gives_fails rows p waiting word o f before e l among own stuck
  known_fails rows p waiting word o None before e l among own stuck = stuck_asks_fails rows p waiting word o before e l among own stuck

  pub stuck_long_fails : (rows : List Row) (p : Pending) (waiting : Waiting) (word o : Word) (value : Option Word) → IsBefore waiting → bytes_eq word dashes ≡ false
      → long_of word ≡ Some (o, value) → IsOwn options p → IsStuck rows p → Fails (at rows p waiting false) word
  stuck_long_fails rows p waiting word o value before e l own stuck = by (is_among options o) refl
    where
      by : (t : Bool) → is_among options o ≡ t → Fails (at rows p waiting false) word
      by true t = known_fails rows p waiting word o value before e l t own stuck
      by false t = unknown_fails rows p waiting word o value before e l t

  pub stuck_file_fails : (rows : List Row) (p : Pending) (a : Bool) (word : Word) → bytes_eq word dashes ≡ false → long_of word ≡ None → short_of word ≡ None
      → IsOwn options p → IsStuck rows p → Fails (at rows p (free a) false) word
  unfolding walked
  stuck_file_fails rows p true word e l s own stuck fine = let bad = rw (e, l, s, reads.by_index, one_word rows p own, faults rows p own ∙ stuck.2) at fine in cc
  stuck_file_fails rows p false word e l s own stuck fine = let bad = rw (e, l, s, reads.by_index, one_word rows p own, faults rows p own ∙ stuck.2) at fine in cc

  pub stuck_source_fails : (rows : List Row) (p : Pending) (waiting : Waiting) (word : Word) → IsOwn options p → IsStuck rows p → Fails (at rows p waiting true) word
  unfolding walked
  stuck_source_fails rows p waiting word own stuck fine = let bad = rw (reads.by_index, one_word rows p own, faults rows p own ∙ stuck.2) at fine in cc
