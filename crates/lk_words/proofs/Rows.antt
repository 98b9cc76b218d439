-- What `clap` holds of the words so far.
use Rattle.std.proofs.Common.{◌≡◌, ◌∙◌, ◌++◌, ap, sym, subst, Bool, true, false, List, [], ◌∷◌, Some, is_some, refl}
use Rattle.std.specs.Prelude.{unwrap_or}
use Rattle.std.specs.Str.{bytes_eq}
use Rattle.std.proofs.lemmas.Slice.Eq.{bytes_eq-Decides}
use Rattle.clap.specs.Walk.{Row, Text, all_of, first_of, has_row, with_values, without}
use Rattle.clap.specs.declared.parser.matches.ValueSource.TheVariants.{CommandLine}
use Rattle.lk_words.specs.Words.{Named, Word, file_of, with_file, with_given}
use Rattle.lk_words.proofs.Options.{file_id, how}

-- the files of the rows
abbrev pub files_of_rows : List Row → List Word
files_of_rows rows = unwrap_or (all_of file_id rows) []

-- the rows have what was named: of options, whose names are none of the files', and of the files
pub record Holds (named : Named) (rows : List Row) : Type 0 where
  pub first : (name : Text) → bytes_eq name file_id ≡ false → first_of name rows ≡ file_of name named
  pub has : (name : Text) → bytes_eq name file_id ≡ false → has_row name rows ≡ is_some (file_of name named)
  pub files : files_of_rows rows ≡ named.files

-- one use of what has this id, with one value
abbrev pub with_use : Text → Word → List Row → List Row
with_use id value rows = with_values id how CommandLine (value ∷ []) rows

differs : (a b : Text) → bytes_eq a b ≡ false → bytes_eq b a ≡ false
differs a b not_same = by (bytes_eq b a) refl
  where
    by : (t : Bool) → bytes_eq b a ≡ t → bytes_eq b a ≡ false
    by true t = let bad : true ≡ false = sym ((bytes_eq-Decides a b).1 (sym ((bytes_eq-Decides b a).0 t))) ∙ not_same in cc
    by false t = t

-- no id is both
one_id : (id a b : Text) → bytes_eq a b ≡ false → bytes_eq id a ≡ true → bytes_eq id b ≡ true → ⊥
one_id id a b not_same is_a is_b =
    let same : a ≡ b = sym ((bytes_eq-Decides id a).0 is_a) ∙ (bytes_eq-Decides id b).0 is_b in
    let bad : true ≡ false = sym ((bytes_eq-Decides a b).1 same) ∙ not_same in
    cc

-- ---- what is of another id stays

module _ (id name : Text) (value : Word) (apart : bytes_eq name id ≡ false) where
  other_first : (rows : List Row) → first_of name (with_use id value rows) ≡ first_of name rows
  other_first [] = rw (differs name id apart) refl
  other_first (r ∷ rows) = by (bytes_eq r.id id) (bytes_eq r.id name) refl refl (other_first rows)
    where
      by : (a b : Bool) → bytes_eq r.id id ≡ a → bytes_eq r.id name ≡ b → first_of name (with_use id value rows) ≡ first_of name rows
          → first_of name (with_use id value (r ∷ rows)) ≡ first_of name (r ∷ rows)
      by true true a b later = absurd (one_id r.id name id apart b a)
      by true false a b later = rw (a, b) refl
      by false true a b later = rw (a, b) refl
      by false false a b later = rw (a, b) later

  other_has : (rows : List Row) → has_row name (with_use id value rows) ≡ has_row name rows
  other_has [] = rw (differs name id apart) refl
  other_has (r ∷ rows) = by (bytes_eq r.id id) (bytes_eq r.id name) refl refl (other_has rows)
    where
      by : (a b : Bool) → bytes_eq r.id id ≡ a → bytes_eq r.id name ≡ b → has_row name (with_use id value rows) ≡ has_row name rows
          → has_row name (with_use id value (r ∷ rows)) ≡ has_row name (r ∷ rows)
      by true true a b later = absurd (one_id r.id name id apart b a)
      by true false a b later = rw (a, b) refl
      by false true a b later = rw (a, b) refl
      by false false a b later = rw (a, b) later

-- the same of the files, where an option is used
module _ (option : Text) (value : Word) (apart : bytes_eq option file_id ≡ false) where
  files_stay : (rows : List Row) → files_of_rows (with_use option value rows) ≡ files_of_rows rows
  files_stay [] = rw apart refl
  files_stay (r ∷ rows) = by (bytes_eq r.id option) (bytes_eq r.id file_id) refl refl (files_stay rows)
    where
      by : (a b : Bool) → bytes_eq r.id option ≡ a → bytes_eq r.id file_id ≡ b → files_of_rows (with_use option value rows) ≡ files_of_rows rows
          → files_of_rows (with_use option value (r ∷ rows)) ≡ files_of_rows (r ∷ rows)
      by true true a b later = absurd (one_id r.id option file_id apart a b)
      by true false a b later = rw (a, b) refl
      by false true a b later = rw (a, b) refl
      by false false a b later = rw (a, b) later

-- ---- a file is put at the end of the files

more_files : (value : Word) (rows : List Row) → files_of_rows (with_use file_id value rows) ≡ files_of_rows rows ++ value ∷ []
more_files value [] = refl
more_files value (r ∷ rows) = by (bytes_eq r.id file_id) refl (more_files value rows)
  where
    by : (a : Bool) → bytes_eq r.id file_id ≡ a → files_of_rows (with_use file_id value rows) ≡ files_of_rows rows ++ value ∷ []
        → files_of_rows (with_use file_id value (r ∷ rows)) ≡ files_of_rows (r ∷ rows) ++ value ∷ []
    by true a later = rw (a, a) refl
    by false a later = rw (a, a) later

pub holds_file : (named : Named) (rows : List Row) (file : Word) → Holds named rows → Holds (with_file named file) (with_use file_id file rows)
holds_file named rows file h = record {
  first = λ name apart. other_first file_id name file apart rows ∙ h.first name apart;
  has = λ name apart. other_has file_id name file apart rows ∙ h.has name apart;
  files = more_files file rows ∙ ap (λ fs. fs ++ file ∷ []) h.files;
}

-- ---- what an option names is put in, where nothing was

without_none : (id : Text) (rows : List Row) → has_row id rows ≡ false → without id rows ≡ rows
without_none id [] none = refl
without_none id (r ∷ rows) none = by (bytes_eq r.id id) refl (without_none id rows)
  where
    by : (a : Bool) → bytes_eq r.id id ≡ a → (has_row id rows ≡ false → without id rows ≡ rows) → without id (r ∷ rows) ≡ r ∷ rows
    by true a later = let bad : true ≡ false = rw a at none in cc
    by false a later = rw (a, later (rw a at none)) refl

same_self : (a : Text) → bytes_eq a a ≡ true
same_self a = (bytes_eq-Decides a a).1 refl

own_first : (id : Text) (value : Word) (rows : List Row) → has_row id rows ≡ false → first_of id (with_use id value rows) ≡ Some value
own_first id value [] none = rw (same_self id) refl
own_first id value (r ∷ rows) none = by (bytes_eq r.id id) refl (own_first id value rows)
  where
    by : (a : Bool) → bytes_eq r.id id ≡ a → (has_row id rows ≡ false → first_of id (with_use id value rows) ≡ Some value) → first_of id (with_use id value (r ∷ rows)) ≡ Some value
    by true a later = let bad : true ≡ false = rw a at none in cc
    by false a later = rw (a, a) (later (rw a at none))

own_has : (id : Text) (value : Word) (rows : List Row) → has_row id (with_use id value rows) ≡ true
own_has id value [] = rw (same_self id) refl
own_has id value (r ∷ rows) = by (bytes_eq r.id id) refl (own_has id value rows)
  where
    by : (a : Bool) → bytes_eq r.id id ≡ a → has_row id (with_use id value rows) ≡ true → has_row id (with_use id value (r ∷ rows)) ≡ true
    by true a later = rw (a, a) refl
    by false a later = rw (a, a) later

module _ (named : Named) (rows : List Row) (option value : Word) (h : Holds named rows) (apart : bytes_eq option file_id ≡ false)
    (new : is_some (file_of option named) ≡ false) where
  empty : has_row option rows ≡ false
  empty = h.has option apart ∙ new

  given_first : (name : Text) → bytes_eq name file_id ≡ false → first_of name (with_use option value rows) ≡ file_of name (with_given named option value)
  given_first name is_option = by (bytes_eq option name) refl
    where
      by : (t : Bool) → bytes_eq option name ≡ t → first_of name (with_use option value rows) ≡ file_of name (with_given named option value)
      by true t =
          let same : option ≡ name = (bytes_eq-Decides option name).0 t in
          rw t (subst (λ n. first_of n (with_use option value rows) ≡ Some value) same (own_first option value rows empty))
      by false t = rw t (other_first option name value (differs option name t) rows ∙ h.first name is_option)

  given_has : (name : Text) → bytes_eq name file_id ≡ false → has_row name (with_use option value rows) ≡ is_some (file_of name (with_given named option value))
  given_has name is_option = by (bytes_eq option name) refl
    where
      by : (t : Bool) → bytes_eq option name ≡ t → has_row name (with_use option value rows) ≡ is_some (file_of name (with_given named option value))
      by true t =
          let same : option ≡ name = (bytes_eq-Decides option name).0 t in
          rw t (subst (λ n. has_row n (with_use option value rows) ≡ true) same (own_has option value rows))
      by false t = rw t (other_has option name value (differs option name t) rows ∙ h.has name is_option)

  pub holds_given : Holds (with_given named option value) (with_use option value (without option rows))
  holds_given = subst (λ more. Holds (with_given named option value) (with_use option value more)) (sym (without_none option rows empty)) (record {
    first = given_first;
    has = given_has;
    files = files_stay option value apart rows ∙ h.files;
  })
