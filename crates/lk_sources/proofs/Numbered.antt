-- The names of files that have numbers.
use Rattle.std.proofs.Common.{◌≡◌, ◌∙◌, ℕ, zero, suc, ◌+◌, Bool, true, false, not, cond, ◌||◌, nat_eq, if◌then◌else◌, List, [], ◌∷◌, ◌++◌, map, Some, Result, Ok, Err, IfOk, OnOk, slice_get, refl, sym, ap, subst, arith}
use Rattle.std.proofs.lemmas.Bool.{true≢false}
use Rattle.std.proofs.lemmas.Map.Keys.{IsDistinct-head, IsDistinct-tail}
use Rattle.std.specs.Cmp.Lexicographic.{pointwise}
use Rattle.std.specs.List.{AllByRecursion, fold}
use Rattle.std.proofs.lemmas.List.Elements.{All-from_recursion}
use Rattle.std.proofs.lemmas.List.Folds.{list_any-append}
use Rattle.std.proofs.lemmas.Slice.Eq.{bytes_eq-Decides}
use Rattle.lk_base.specs.Files.{has_name, with_name, AreDifferent}
use Rattle.lk_base.specs.declared.memory.NoMemory.{NoMemory}
use Rattle.lk_lex.specs.Answer.{Extends}
use Rattle.lk_words.specs.Words.{Command, beside}
use Rattle.lk_sources.specs.Numbers.{number_of, numbered}
use Rattle.lk_sources.specs.Reading.{names_of}
use Rattle.lk_sources.specs.Readable.{AreNamed}
use Rattle.lk_sources.specs.declared.reading.Source.{Source}

or_left : (a b : Bool) → a ≡ true → (a || b) ≡ true
or_left true b a = refl
or_left false b a = absurd cc

or_right : (a b : Bool) → b ≡ true → (a || b) ≡ true
or_right true b is = refl
or_right false b is = is

-- a name stays, whatever stands behind
has_still : (names more : List (List ℕ)) (name : List ℕ) → has_name names name ≡ true → has_name (names ++ more) name ≡ true
has_still names more name has = list_any-append (pointwise nat_eq name) names more ∙ or_left (has_name names name) (has_name more name) has

pub has_extended : (names last : List (List ℕ)) (name : List ℕ) → Extends names last → has_name names name ≡ true → has_name last name ≡ true
has_extended names last name (more, is) has = subst (λ l. has_name l name ≡ true) (sym is) (has_still names more name has)

has_kept : (names : List (List ℕ)) (name other : List ℕ) → has_name names name ≡ true → has_name (with_name names other) name ≡ true
has_kept names name other has = by (has_name names other)
  where
    by : (found : Bool) → has_name (if found then names else names ++ other ∷ []) name ≡ true
    by true = has
    by false = has_still names (other ∷ []) name has

same_self : (name : List ℕ) → pointwise nat_eq name name ≡ true
same_self name = (bytes_eq-Decides name name).1 refl

has_itself : (names : List (List ℕ)) (name : List ℕ) → has_name (with_name names name) name ≡ true
has_itself names name = by (has_name names name) refl
  where
    last : has_name (names ++ name ∷ []) name ≡ true
    last = list_any-append (pointwise nat_eq name) names (name ∷ []) ∙ or_right (has_name names name) (has_name (name ∷ []) name) (or_left (pointwise nat_eq name name) false (same_self name))

    by : (found : Bool) → has_name names name ≡ found → has_name (if found then names else names ++ name ∷ []) name ≡ true
    by true is = is
    by false is = last

-- a name that is there changes nothing
pub with_itself : (names : List (List ℕ)) (name : List ℕ) → has_name names name ≡ true → with_name names name ≡ names
with_itself names name has = ap (λ found. if found then names else names ++ name ∷ []) has

has_all_kept : (more names : List (List ℕ)) (name : List ℕ) → has_name names name ≡ true → has_name (fold with_name names more) name ≡ true
has_all_kept [] names name has = has
has_all_kept (other ∷ more) names name has = has_all_kept more (with_name names other) name (has_kept names name other has)

all_there : (more names : List (List ℕ)) → AllByRecursion (λ name. has_name (fold with_name names more) name ≡ true) more
all_there [] names = tt
all_there (name ∷ more) names = (has_all_kept more (with_name names name) name (has_itself names name), all_there more (with_name names name))

all_there_still : (more names list : List (List ℕ)) → AllByRecursion (λ name. has_name names name ≡ true) list → AllByRecursion (λ name. has_name (fold with_name names more) name ≡ true) list
all_there_still more names [] all = tt
all_there_still more names (name ∷ list) all = (has_all_kept more names name all.0, all_there_still more names list all.1)

of_sources : (names : List (List ℕ)) (sources : List Source) → AllByRecursion (λ name. has_name names name ≡ true) (map (λ s. s.name) sources) → AllByRecursion (λ s. has_name names s.name ≡ true) sources
of_sources names [] all = tt
of_sources names (s ∷ sources) all = (all.0, of_sources names sources all.1)

-- the names of a command's sources have numbers
pub sources_named : (command : Command) (names : List (List ℕ)) (sources : List Source) → names ≡ numbered command → map (λ s. s.name) sources ≡ command.files → AreNamed names sources
sources_named command names sources are named =
    let first = all_there_still (names_of command.externs) (fold with_name [] command.files) command.files (all_there command.files []) in
    let there = all_there_still (names_of (beside command.task)) (fold with_name (fold with_name [] command.files) (names_of command.externs)) command.files first in
    let here = subst (λ list. AllByRecursion (λ name. has_name (numbered command) name ≡ true) list) (sym named) there in
    subst (λ l. AreNamed l sources) (sym are) (All-from_recursion (λ s. has_name (numbered command) s.name ≡ true) sources (of_sources (numbered command) sources here))

-- ---- the number of a name that is put

not_there : (first name : List ℕ) (names : List (List ℕ)) (i : ℕ) → AllByRecursion (λ y. pointwise nat_eq first y ≡ false) names → slice_get names i ≡ Some name → pointwise nat_eq first name ≡ false
not_there first name [] i all there = absurd cc
not_there first name (n ∷ ns) zero all there = let equal : n ≡ name = cc in ap (pointwise nat_eq first) (sym equal) ∙ all.0
not_there first name (n ∷ ns) (suc i) all there = not_there first name ns i all.1 there

-- the place of a name among different names is its number
place_is : (names : List (List ℕ)) (name : List ℕ) (i : ℕ) → AreDifferent names → slice_get names i ≡ Some name → i ≡ number_of names name
place_is [] name i apart there = absurd cc
place_is (n ∷ ns) name zero apart there =
    let equal : n ≡ name = cc in let found : pointwise nat_eq name n ≡ true = ap (pointwise nat_eq name) equal ∙ same_self name in rw found refl
place_is (n ∷ ns) name (suc i) apart there = by (pointwise nat_eq name n) refl (place_is ns name i (IsDistinct-tail _ n ns apart) there)
  where
    by : (found : Bool) → pointwise nat_eq name n ≡ found → i ≡ number_of ns name → suc i ≡ cond (not found) (1 + number_of ns name) 0
    by true e others =
        let equal : name ≡ n = (bytes_eq-Decides name n).0 e in
        absurd (true≢false (sym (same_self n) ∙ ap (pointwise nat_eq n) (sym equal) ∙ not_there n name ns i (IsDistinct-head _ n ns apart) there))
    by false e others = omega arith

number_put : (names : List (List ℕ)) (name : List ℕ) → number_of (names ++ name ∷ []) name ≡ number_of names name
number_put [] name = rw (same_self name) refl
number_put (n ∷ ns) name = by (pointwise nat_eq name n) (number_put ns name)
  where
    by : (found : Bool) → number_of (ns ++ name ∷ []) name ≡ number_of ns name → cond (not found) (1 + number_of (ns ++ name ∷ []) name) 0 ≡ cond (not found) (1 + number_of ns name) 0
    by true others = refl
    by false others = ap (λ n. 1 + n) others

number_with : (names : List (List ℕ)) (name : List ℕ) → number_of (with_name names name) name ≡ number_of names name
number_with names name = by (has_name names name)
  where
    by : (found : Bool) → number_of (if found then names else names ++ name ∷ []) name ≡ number_of names name
    by true = refl
    by false = number_put names name

pub put_place : (r : Result ℕ NoMemory) (old new : List (List ℕ)) (name : List ℕ) → IfOk r (λ i. slice_get new i ≡ Some name) → OnOk r (new ≡ with_name old name) → AreDifferent new →
    IfOk r (λ i. i ≡ number_of old name)
put_place (Ok i) old new name there put apart = place_is new name i apart there ∙ (ap (λ l. number_of l name) put ∙ number_with old name)
put_place (Err e) old new name there put apart = tt
