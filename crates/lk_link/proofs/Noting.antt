-- Numbers that come to names, of which the least is kept.
use Rattle.std.proofs.Common.{◌≡◌, ◌∙◌, ◌⊎◌, ◌↔◌, inl, inr, ◌<◌, ◌≤◌, ◌+◌, [], ℕ, List, Bool, true, false, Option, Some, None, if◌then◌else◌, refl, sym, ap, subst, length, arith, nat_eq}
use Rattle.std.proofs.lemmas.Bool.{false≢true}
use Rattle.std.proofs.lemmas.Option.{none-some, same_Some, slice_get_within}
use Rattle.std.proofs.Math.Nat.{eq-or-lt_of_le}
use Rattle.std.specs.Prelude.{IsTrue, is_some}
use Rattle.std.specs.Cmp.Lexicographic.{pointwise}
use Rattle.std.specs.List.{slice_get, Contains}
use Rattle.lk_link.specs.Absent.{AreLeast, AreListed, IsNoted, IsNumberPut, number_at}
use Rattle.lk_link.proofs.Growing.{at_contains, contains_at}
use Rattle.lk_link.proofs.Meeting.{name_is, name_itself}

module _ (old new : List (List ℕ × ℕ)) (name : List ℕ) (number : ℕ) where
  other_name : (other : List ℕ) → (other ≡ name → ⊥) → pointwise nat_eq name other ≡ false
  other_name other differ = by (pointwise nat_eq name other) refl
    where
      by : (b : Bool) → pointwise nat_eq name other ≡ b → b ≡ false
      by true is = absurd (differ (sym (name_is name other is)))
      by false is = refl

  abbrev choice : List ℕ → Bool → Option ℕ
  choice other b = if b then Some number else number_at old other

  -- a number is put where there was none, or a greater one
  pub put_noted : ((before : ℕ) → number_at old name ≡ Some before → number ≤ before) → IsNumberPut old new name number → IsNoted old new name number
  put_noted greater put = record {
    least = number;
    this = put name ∙ ap (choice name) (name_itself name name refl);
    no_more = omega arith;
    from = inl refl;
    no_more_than = greater;
    others = λ other differ. put other ∙ ap (choice other) (other_name other differ);
  }

-- a number that is no less changes nothing
pub kept_noted : (old : List (List ℕ × ℕ)) (name : List ℕ) (number before : ℕ) → number_at old name ≡ Some before → before ≤ number → IsNoted old old name number
kept_noted old name number before at no_more = record {
  least = before;
  this = at;
  no_more = no_more;
  from = inr at;
  no_more_than = λ b there. let same = same_Some before b (sym at ∙ there) in omega (arith, same);
  others = λ other differ. refl;
}

pub least_nothing : (Is : List ℕ → ℕ → Type 0) → ((name : List ℕ) (m : ℕ) → Is name m → ⊥) → AreLeast Is []
least_nothing Is never = record {
  found = λ name n at. absurd (none-some n at);
  none = λ name at m is. never name m is;
}

-- the same by other words
pub least_by : (Is Other : List ℕ → ℕ → Type 0) (entries : List (List ℕ × ℕ)) → ((name : List ℕ) (m : ℕ) → Is name m → Other name m) → ((name : List ℕ) (m : ℕ) → Other name m → Is name m) → AreLeast Is entries → AreLeast Other entries
least_by Is Other entries to from h = record {
  found = λ name n at. let k = h.found name n at in (to name n k.0, λ m is. k.1 m (from name m is));
  none = λ name at m is. h.none name at m (from name m is);
}

module _ (Is : List ℕ → ℕ → Type 0) (old new : List (List ℕ × ℕ)) (name : List ℕ) (number : ℕ) (h : AreLeast Is old) (k : IsNoted old new name number) where
  abbrev With : List ℕ → ℕ → Type 0
  With other m = Is other m ⊎ ((other ≡ name) × (m ≡ number))

  at_name : (m : ℕ) → With name m → k.least ≤ m
  at_name m (inl is) = by (number_at old name) refl
    where
      by : (o : Option ℕ) → number_at old name ≡ o → k.least ≤ m
      by None at = absurd (h.none name at m is)
      by (Some n) at = let a = (h.found name n at).1 m is in let b = k.no_more_than n at in omega (arith, a, b)
  at_name m (inr this) = let a = k.no_more in let b = this.1 in omega (arith, a, b)

  is_there : With name k.least
  is_there = elim k.from [
    | inl new_ ↦ inr (refl, new_)
    | inr before ↦ inl (h.found name k.least before).0
  ]

  pub least_noted : AreLeast With new
  least_noted = record {
    found = λ other n at. found other n at (pointwise nat_eq name other) refl;
    none = λ other at m is. none other at m is (pointwise nat_eq name other) refl;
  }
    where
      apart : (other : List ℕ) → pointwise nat_eq name other ≡ false → other ≡ name → ⊥
      apart other is same = false≢true (sym is ∙ name_itself name other (sym same))

      old_only : (other : List ℕ) → pointwise nat_eq name other ≡ false → (m : ℕ) → With other m → Is other m
      old_only other is m (inl there) = there
      old_only other is m (inr this) = absurd (apart other is this.0)

      found : (other : List ℕ) (n : ℕ) → number_at new other ≡ Some n → (b : Bool) → pointwise nat_eq name other ≡ b → With other n × ((m : ℕ) → With other m → n ≤ m)
      found other n at true is =
          let same = name_is name other is in
          let least = same_Some k.least n (sym k.this ∙ ap (number_at new) same ∙ at) in (
            subst (λ other. With other n) same (subst (With name) least is_there),
            λ m w. let a = at_name m (subst (λ other. With other m) (sym same) w) in omega (arith, a, least),
          )
      found other n at false is =
          let f = h.found other n (sym (k.others other (apart other is)) ∙ at) in
          (inl f.0, λ m w. f.1 m (old_only other is m w))

      none : (other : List ℕ) → number_at new other ≡ None → (m : ℕ) → With other m → (b : Bool) → pointwise nat_eq name other ≡ b → ⊥
      none other at m w true is = none-some k.least (sym at ∙ ap (number_at new) (sym (name_is name other is)) ∙ k.this)
      none other at m w false is = h.none other (sym (k.others other (apart other is)) ∙ at) m (old_only other is m w)

-- the names of a list that stand below a place
abbrev pub IsListedBelow : List (List ℕ) → ℕ → List ℕ → ℕ → Type 0
IsListedBelow names n name number = (i : ℕ) × (i < n) × (slice_get names i ≡ Some name) × (number ≡ 0)

module _ (names : List (List ℕ)) where
  pub listed_none : AreLeast (IsListedBelow names 0) []
  listed_none = least_nothing (IsListedBelow names 0) (λ name m is. let less = is.1 in absurd (omega (arith, less)))

  pub listed_more : (old new : List (List ℕ × ℕ)) (n : ℕ) (name : List ℕ) → slice_get names n ≡ Some name → AreLeast (IsListedBelow names n) old → IsNoted old new name 0 → AreLeast (IsListedBelow names (n + 1)) new
  listed_more old new n name at h k =
      least_by (λ other m. IsListedBelow names n other m ⊎ ((other ≡ name) × (m ≡ 0))) (IsListedBelow names (n + 1)) new to from (least_noted (IsListedBelow names n) old new name 0 h k)
    where
      one_more : (i : ℕ) → i < n → i < n + 1
      one_more i less = omega arith

      at_most : (i : ℕ) → i < n + 1 → i ≤ n
      at_most i less = omega arith

      this_one : n < n + 1
      this_one = omega arith

      to : (other : List ℕ) (m : ℕ) → IsListedBelow names n other m ⊎ ((other ≡ name) × (m ≡ 0)) → IsListedBelow names (n + 1) other m
      to other m (inl is) = (is.0, one_more is.0 is.1, is.2, is.3)
      to other m (inr this) = (n, this_one, at ∙ ap Some (sym this.0), this.1)

      from : (other : List ℕ) (m : ℕ) → IsListedBelow names (n + 1) other m → IsListedBelow names n other m ⊎ ((other ≡ name) × (m ≡ 0))
      from other m is = elim (eq-or-lt_of_le (at_most is.0 is.1)) [
        | inl last ↦ inr (same_Some other name (sym is.2 ∙ ap (slice_get names) last ∙ at), is.3)
        | inr less ↦ inl (is.0, less, is.2, is.3)
      ]

  pub listed_all : (entries : List (List ℕ × ℕ)) (n : ℕ) → n ≡ length names → AreLeast (IsListedBelow names n) entries → AreListed names entries
  listed_all entries n whole h =
      least_by (IsListedBelow names n) (λ name number. Contains names name × (number ≡ 0)) entries
      (λ name m is. (contains_at names is.0 name is.2, is.3))
      (λ name m is. let there = at_contains names name is.0 in (there.0, subst (λ n. there.0 < n) (sym whole) (slice_get_within names there.0 name there.1), there.1, is.1)) h

-- there is something, as a test and as a denial
pub some_there : {X : Type 0} (o : Option X) (b : Bool) → b ≡ is_some o → IsTrue b ↔ (o ≡ None → ⊥)
some_there None b is = ((λ yes_. absurd (false≢true (sym is ∙ yes_))), (λ some_. absurd (some_ refl)))
some_there (Some x) b is = ((λ yes_ none_. none-some x (sym none_)), (λ some_. is))
