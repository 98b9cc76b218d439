-- What the reading of both kinds of files says of a command.
use Rattle.std.proofs.Common.{inl, inr, ◌≡◌, ◌∙◌, ◌≤◌, ◌&&◌, ℕ, Bool, true, false, List, [], ◌∷◌, Option, Some, None, Bor, length, map, nat_le, refl, sym, ap, subst, arith}
use Rattle.std.specs.List.{All, AllByRecursion, list_all}
use Rattle.std.proofs.lemmas.Bool.{leb-true}
use Rattle.std.proofs.lemmas.List.Elements.{All-nil, All-cons, All-from_recursion, recursion_from_All}
use Rattle.lk_base.specs.declared.code.Code.TheVariants.{TooLong}
use Rattle.lk_io.specs.Counts.{Rose}
use Rattle.lk_io.specs.Shelf.{Held, IsFileName}
use Rattle.lk_words.specs.Words.{Command, Word, beside, is_count, is_in_bounds, is_name, is_name_or_none}
use Rattle.lk_sources.specs.Calls.{AreFileNames, AreFiles, AreNoFiles, AreBoth, AreNotBoth, AreOwn, IsUnread}
use Rattle.lk_sources.specs.Numbers.{numbered, refusal_at}
use Rattle.lk_sources.specs.Readable.{FailsToRead}
use Rattle.lk_sources.specs.Reading.{longest_beside, longest_externs, longest_sources, names_of, IsTooLong, nothing, long_externs, long_beside, long_sources, at_externs, at_beside, at_sources}
use Rattle.lk_sources.specs.Shelves.{Shelved, IsAsBefore}
use Rattle.lk_sources.specs.declared.fault.SourcesFault.{SourcesFault}
use Rattle.lk_sources.specs.declared.fault.SourcesFault.TheVariants as told
use Rattle.lk_sources.specs.declared.reading.ReadingFault.{ReadingFault}
use Rattle.lk_sources.specs.declared.reading.ReadingFault.TheVariants as unread
use Rattle.lk_sources.specs.declared.reading.Source.{Source}
use Rattle.lk_sources.proofs.InOrder.{telling}

-- ---- names that may be asked for

and_left : (a b : Bool) → (a && b) ≡ true → a ≡ true
and_left true b is = refl
and_left false b is = absurd cc

and_right : (a b : Bool) → (a && b) ≡ true → b ≡ true
and_right true b is = is
and_right false b is = absurd cc

is_file_name : (name : Word) → is_name name ≡ true → IsFileName name
is_file_name name is =
    let some : 1 ≤ length name = leb-true 1 (length name) (and_left (nat_le 1 (length name)) (nat_le (length name) 255) is) in
    let few : length name ≤ 255 = leb-true (length name) 255 (and_right (nat_le 1 (length name)) (nat_le (length name) 255) is) in
    (omega arith, few)

pub are_file_names : (names : List Word) → list_all is_name names ≡ true → AreFileNames names
are_file_names [] all = All-nil IsFileName
are_file_names (name ∷ names) all =
    All-cons IsFileName name names (is_file_name name (and_left (is_name name) (list_all is_name names) all)) (are_file_names names (and_right (is_name name) (list_all is_name names) all))

name_or_none : (name : Option Word) → is_name_or_none name ≡ true → AreFileNames (names_of name)
name_or_none None is = All-nil IsFileName
name_or_none (Some name) is = All-cons IsFileName name [] (is_file_name name is) (All-nil IsFileName)

module _ (command : Command) (is : is_in_bounds command ≡ true) where
  names_are : (list_all is_name command.files && (is_name_or_none command.externs && is_name_or_none (beside command.task))) ≡ true
  names_are = and_right (is_count (length command.files)) (list_all is_name command.files && (is_name_or_none command.externs && is_name_or_none (beside command.task))) is

  own_are : (is_name_or_none command.externs && is_name_or_none (beside command.task)) ≡ true
  own_are = and_right (list_all is_name command.files) (is_name_or_none command.externs && is_name_or_none (beside command.task)) names_are

  pub externs_may : AreFileNames (names_of command.externs)
  externs_may = name_or_none command.externs (and_left (is_name_or_none command.externs) (is_name_or_none (beside command.task)) own_are)

  pub beside_may : AreFileNames (names_of (beside command.task))
  beside_may = name_or_none (beside command.task) (and_right (is_name_or_none command.externs) (is_name_or_none (beside command.task)) own_are)

  pub files_may : AreFileNames command.files
  files_may = are_file_names command.files (and_left (list_all is_name command.files) (is_name_or_none command.externs && is_name_or_none (beside command.task)) names_are)

of_each : {A B : Type 0} (P : B → Type 0) (f : A → B) (xs : List A) → AllByRecursion P (map f xs) → AllByRecursion (λ x. P (f x)) xs
of_each P f [] all = tt
of_each P f (x ∷ xs) all = (all.0, of_each P f xs all.1)

pub each_may : (words : List (Bor Word)) → AreFileNames (map (λ name. name.now) words) → All (λ name. IsFileName name.now) words
each_may words all =
    All-from_recursion (λ (name : Bor Word). IsFileName name.now) words (of_each IsFileName (λ (name : Bor Word). name.now) words (recursion_from_All IsFileName (map (λ (name : Bor Word). name.now) words) all))

-- ---- both kinds of files

pub no_files : (most : ℕ) (shelf : Shelved) → IsAsBefore shelf.faults → AreFiles [] most shelf []
no_files most shelf calm = record { calm = calm; named = refl; short = All-nil _; read = λ held there. (most, nothing) }

pub externs_fail : (command : Command) (shelf : Shelved) (fault : ReadingFault) → AreNoFiles (names_of command.externs) longest_externs shelf fault → AreNotBoth command shelf fault
externs_fail command shelf (unread.TooLong name) (calm, passes) = (calm, λ held there. long_externs (passes held there))
externs_fail command shelf (unread.Unread name) (rose, named, bad, reaches) = (rose, inl named, bad, λ held there. at_externs (reaches held there))
externs_fail command shelf unread.NoMemory none = tt

module _ (command : Command) (h0 h1 : Option Held) (bad1 bad2 : Option (List ℕ)) (f0 f1 f2 : ℕ) (externs : List Source) (same : h1 ≡ h0)
    (first : AreFiles (names_of command.externs) longest_externs (telling h0 bad1 f0 f1) externs) where
  pub beside_fails : (fault : ReadingFault) → AreNoFiles (names_of (beside command.task)) (longest_beside command.task) (telling h1 bad2 f1 f2) fault → AreNotBoth command (telling h0 bad2 f0 f2) fault
  beside_fails (unread.TooLong name) (calm, passes) =
      (calm ∙ first.calm, λ held there. long_beside externs (first.read held there).0 (first.read held there).1 (passes held (same ∙ there)))
  beside_fails (unread.Unread name) (rose, named, bad, reaches) =
      (subst (λ f. Rose f f2) first.calm rose, inr (inl named), bad, λ held there. at_beside externs (first.read held there).0 (first.read held there).1 (reaches held (same ∙ there)))
  beside_fails unread.NoMemory none = tt

  pub own_files : (others : List Source) → AreFiles (names_of (beside command.task)) (longest_beside command.task) (telling h1 bad2 f1 f2) others → AreOwn command (telling h0 bad2 f0 f2) externs others
  own_files others second =
      record {
        calm = second.calm ∙ first.calm;
        externs_names = first.named;
        others_names = second.named;
        short_externs = first.short;
        short_others = second.short;
        read = λ held there.
            record {
              externs_left = (first.read held there).0;
              externs_read = (first.read held there).1;
              others_left = (second.read held (same ∙ there)).0;
              others_read = (second.read held (same ∙ there)).1;
            };
      }

module _ (command : Command) (h0 h1 : Option Held) (bad1 bad2 : Option (List ℕ)) (f0 f1 f2 : ℕ) (externs others : List Source) (same : h1 ≡ h0)
    (own : AreOwn command (telling h0 bad1 f0 f1) externs others) where
  pub sources_fail : (fault : ReadingFault) → AreNoFiles command.files longest_sources (telling h1 bad2 f1 f2) fault → AreNotBoth command (telling h0 bad2 f0 f2) fault
  sources_fail (unread.TooLong name) (calm, passes) =
      (calm ∙ own.calm, λ held there. long_sources externs others (own.read held there) (passes held (same ∙ there)))
  sources_fail (unread.Unread name) (rose, named, bad, reaches) =
      (subst (λ f. Rose f f2) own.calm rose, inr (inr named), bad, λ held there. at_sources externs others (own.read held there) (reaches held (same ∙ there)))
  sources_fail unread.NoMemory none = tt

  pub both : (sources : List Source) → AreFiles command.files longest_sources (telling h1 bad2 f1 f2) sources →
      AreBoth command (telling h0 bad2 f0 f2) (record { externs = externs; beside = others; sources = sources })
  both sources second =
      record {
        calm = second.calm ∙ own.calm;
        externs_names = own.externs_names;
        others_names = own.others_names;
        names = second.named;
        short_externs = own.short_externs;
        short_others = own.short_others;
        short = second.short;
        read = λ held there.
            record {
              own = own.read held there;
              sources_left = (second.read held (same ∙ there)).0;
              sources_read = (second.read held (same ∙ there)).1;
            };
      }

-- what is told where they are not read
pub told_unread : (command : Command) (shelf : Shelved) (names : List (List ℕ)) (fault : ReadingFault) (result : SourcesFault) → names ≡ numbered command → AreNotBoth command shelf fault → IsUnread names fault result →
    FailsToRead command shelf result
told_unread command shelf names (unread.TooLong name) (told.Refused file refusal) are (calm, long) (is_file, is) = (
  calm,
  (is ∙ (ap (λ n. refusal_at n name TooLong 1) are ∙ ap (λ n. refusal_at (numbered command) n TooLong 1) (sym is_file))),
  λ held there. subst (IsTooLong command held) (sym is_file) (long held there),
)
told_unread command shelf names (unread.TooLong name) (told.Unread other) are not_both is = absurd is
told_unread command shelf names (unread.TooLong name) told.NoMemory are not_both is = tt
told_unread command shelf names (unread.Unread name) result are not_both is = subst (FailsToRead command shelf) (sym is) not_both
told_unread command shelf names unread.NoMemory result are not_both is = subst (FailsToRead command shelf) (sym is) tt
