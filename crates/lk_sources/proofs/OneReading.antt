-- A command is in bounds, and its files are read in one way.
use Rattle.std.proofs.Common.{◌≡◌, ◌∙◌, ◌-◌, ◌<◌, ◌≤◌, ℕ, Bool, true, false, if◌then◌else◌, List, [], ◌∷◌, Option, Some, None, length, refl, sym, ap, subst, arith}
use Rattle.std.specs.Prelude.{option_and_then, codes}
use Rattle.std.specs.Str.{bytes_eq}
use Rattle.std.proofs.lemmas.Option.{same_Some}
use Rattle.lk_io.specs.Shelf.{Held, IsLonger}
use Rattle.lk_words.specs.Words.{Check, Command, Named, Order, Play, Task, Word, externs_option, file_of, in_bounds, is_in_bounds, named_of, beside, plain, with_option, with_task}
use Rattle.lk_sources.specs.Laws.{CommandsAreInBounds, HasOneReading, NeverTooLong}
use Rattle.lk_sources.specs.Reading.{names_of, longest_beside, longest_externs, longest_sources, AreRead, nothing, next, Passes, here, behind, long_externs, long_beside, long_sources, source}
use Rattle.lk_sources.specs.declared.reading.Source.{Source}

in_bounds_is : (named result : Command) → in_bounds named ≡ Some result → is_in_bounds result ≡ true
in_bounds_is named result is = by (is_in_bounds named) refl is
  where
    by : (found : Bool) → is_in_bounds named ≡ found → (if found then Some named else None) ≡ Some result → is_in_bounds result ≡ true
    by true e same = ap is_in_bounds (sym (same_Some named result same)) ∙ e
    by false e same = absurd cc

with_task_is : (task : Task) (named : Named) (result : Command) → with_task task named ≡ Some result → is_in_bounds result ≡ true
with_task_is task named result is = in_bounds_is (record { task = task; externs = file_of externs_option named; files = named.files }) result is

plain_is : (task : Task) (words : List Word) (result : Command) → plain task words ≡ Some result → is_in_bounds result ≡ true
plain_is task words result is = by (named_of (externs_option ∷ []) words) is
  where
    by : (found : Option Named) → option_and_then (with_task task) found ≡ Some result → is_in_bounds result ≡ true
    by None same = absurd cc
    by (Some named) same = with_task_is task named result same

with_option_is : (option : Word) (task : Word → Task) (words : List Word) (result : Command) → with_option option task words ≡ Some result → is_in_bounds result ≡ true
with_option_is option task words result is = by (named_of (option ∷ externs_option ∷ []) words) is
  where
    of_file : (named : Named) (found : Option Word) → option_and_then (λ file. with_task (task file) named) found ≡ Some result → is_in_bounds result ≡ true
    of_file named None same = absurd cc
    of_file named (Some file) same = with_task_is (task file) named result same

    by : (found : Option Named) → option_and_then (λ named. option_and_then (λ file. with_task (task file) named) (file_of option named)) found ≡ Some result → is_in_bounds result ≡ true
    by None same = absurd cc
    by (Some named) same = of_file named (file_of option named) same

pub commands_are_in_bounds : CommandsAreInBounds
commands_are_in_bounds [] named is = absurd cc
commands_are_in_bounds (first ∷ words) named is = by (bytes_eq first (codes "check")) (bytes_eq first (codes "order")) (bytes_eq first (codes "play")) is
  where
    by : (check order play : Bool) → (if check then plain Check words else if order then plain Order words else if play then with_option (codes "schedule") Play words else None) ≡ Some named →
        is_in_bounds named ≡ true
    by true order play same = plain_is Check words named same
    by false true play same = plain_is Order words named same
    by false false true same = with_option_is (codes "schedule") Play words named same
    by false false false same = absurd cc

-- ---- files

one_read : (held : Held) (most left other_left : ℕ) (names : List (List ℕ)) (sources others : List Source) → AreRead held most names sources left → AreRead held most names others other_left → sources ≡ others
one_read held most left other_left [] sources others nothing nothing = refl
one_read held most left other_left (name ∷ names) sources others (next {bytes = bytes} {sources = more} there fits rest) (next {bytes = text} {sources = list} there' fits' rest') =
    let same : bytes ≡ text = same_Some bytes text (sym there ∙ there') in
    let rests = one_read held (most - length bytes) left other_left names more list rest (subst (λ b. AreRead held (most - length b) names list other_left) (sym same) rest') in
    ap (λ b. source name b ∷ more) same ∙ ap (λ l. source name text ∷ l) rests

never_longer : (file : Option (List ℕ)) (bytes : List ℕ) (most : ℕ) → file ≡ Some bytes → length bytes ≤ most → IsLonger file most → ⊥
never_longer file bytes most there within longer = let past : most < length bytes = subst (λ f. IsLonger f most) there longer in omega arith

never_passes : (held : Held) (most left : ℕ) (names : List (List ℕ)) (sources : List Source) (name : List ℕ) → AreRead held most names sources left → Passes held most names name → ⊥
never_passes held most left [] sources name read passes = elim passes [ ]
never_passes held most left (first ∷ names) sources name (next {bytes = bytes} there fits rest) (here longer) = never_longer (held first) bytes most there fits longer
never_passes held most left (first ∷ names) sources name (next {bytes = bytes} {sources = more} there fits rest) (behind {bytes = text} there' fits' passes) =
    let same : bytes ≡ text = same_Some bytes text (sym there ∙ there') in
    never_passes held (most - length bytes) left names more name rest (subst (λ b. Passes held (most - length b) names name) (sym same) passes)

pub has_one_reading : HasOneReading
has_one_reading named held externs others sources externs2 others2 sources2 one other = (
  one_read held longest_externs one.own.externs_left other.own.externs_left (names_of named.externs) externs externs2 one.own.externs_read other.own.externs_read,
  one_read held (longest_beside named.task) one.own.others_left other.own.others_left (names_of (beside named.task)) others others2 one.own.others_read other.own.others_read,
  one_read held longest_sources one.sources_left other.sources_left named.files sources sources2 one.sources_read other.sources_read,
)

pub never_too_long : NeverTooLong
never_too_long named held externs others sources name read (long_externs passes) =
    never_passes held longest_externs read.own.externs_left (names_of named.externs) externs name read.own.externs_read passes
never_too_long named held externs others sources name read (long_beside first left is passes) =
    never_passes held (longest_beside named.task) read.own.others_left (names_of (beside named.task)) others name read.own.others_read passes
never_too_long named held externs others sources name read (long_sources first second own passes) =
    never_passes held longest_sources read.sources_left named.files sources name read.sources_read passes
