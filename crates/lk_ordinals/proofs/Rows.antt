-- A row of parts beside a loop that numbers them one after another.
use Rattle.std.proofs.Common.{◌≡◌, ℕ, ◌+◌, ◌<◌, ◌≤◌, List, [], ◌∷◌, ◌++◌, map, length, get_or, take, drop, refl, sym, ap, ◌∙◌, append_assoc, append-nil, drop-set-lt, take_all, arith}
use Rattle.std.specs.Prelude.{slice_set}
use Rattle.std.proofs.lemmas.List.{drop_all, drop_more, take_more_set}
use Rattle.lk_tree.specs.Numbers.{Numbered, list, list_of}

-- these parts before the others
abbrev pub behind : {A : Type 0} → List A → List A × ℕ → List A × ℕ
behind done others = (done ++ others.0, others.1)

module _ {A : Type 0} (number : A → Numbered A) (old : List A) (first : ℕ) where
  -- the parts before an index have their ordinals, and those from it on are still to be numbered
  abbrev pub AreNumbered : List A → ℕ → ℕ → Type 0
  AreNumbered now i next = list_of number old first ≡ behind (take i now) (list_of number (drop i now) next)

  -- one more is numbered
  pub turned : (now : List A) (i next : ℕ) (x y : A) (after : ℕ) → AreNumbered now i next → i < length now → x ≡ get_or now i x
      → number x next ≡ (y, after) → AreNumbered (slice_set now i y) (i + 1) after
  turned now i next x y after held inside is numbered =
      let others = list_of number (drop (i + 1) now) after in
      let left : list_of number (drop i now) next ≡ (y ∷ others.0, others.1) =
      ap (λ xs. list_of number xs next) (drop_more now i x inside ∙ ap (λ z. z ∷ drop (i + 1) now) (sym is))
      ∙ ap (λ (p : A × ℕ). (p.0 ∷ (list_of number (drop (i + 1) now) p.1).0, (list_of number (drop (i + 1) now) p.1).1)) numbered in
      held ∙ ap (behind (take i now)) left
      ∙ rw (take_more_set now i y inside, drop-set-lt (i + 1) now i y (omega arith)) (ap (λ xs. (xs, others.1)) (sym (append_assoc (take i now) (y ∷ []) others.0)))

  -- all are
  pub ended : (now : List A) (i next : ℕ) → AreNumbered now i next → length now ≤ i → list_of number old first ≡ (now, next)
  ended now i next held past = held ∙ rw (drop_all i now past, take_all i now past) (ap (λ xs. (xs, next)) (append-nil now))

-- parts that are numbered by a function, as a list of what numbers each
pub list_is : {A : Type 0} (number : A → Numbered A) (xs : List A) (n : ℕ) → list (map number xs) n ≡ list_of number xs n
list_is number [] n = refl
list_is number (x ∷ xs) n = ap (λ y. ((number x n).0 ∷ y.0, y.1)) (list_is number xs (number x n).1)

pub ended_list : {A : Type 0} (number : A → Numbered A) (old : List A) (first : ℕ) (now : List A) (i next : ℕ) → AreNumbered number old first now i next → length now ≤ i
    → list (map number old) first ≡ (now, next)
ended_list number old first now i next held past = list_is number old first ∙ ended number old first now i next held past
