-- What loops share that close a relation: the measure falls with each new pair, and one step goes behind another.
use Rattle.std.proofs.Common.{ℕ, ◌+◌, ◌-◌, ◌<◌, ◌≤◌, ◌≡◌, ◌||◌, ◌&&◌, Bool, true, false, not, cond, eqb, List, [], ◌∷◌, length, refl, sym, ap, ◌∙◌, subst, ◌⊎◌, inl, inr, arith, sum_by, below_more, All, take, get_or}
use Rattle.std.specs.Prelude.{count_by, ⊤}
use Rattle.std.specs.List.{range_with_len}
use Rattle.std.proofs.lemmas.Bool.{both_ways, cases_lt, eqb-true, or_cases, or_parts, lt-ltb, not-true, or_left, or_right, and_from, eq-eqb}
use Rattle.std.proofs.lemmas.List.{take_all}
use Rattle.std.proofs.lemmas.List.Elements.{All-more}
use Rattle.std.proofs.lemmas.List.Sums.{sum_by-cons, sum_by-le-sum_by}
use Rattle.lk_sets.specs.Ids.{has_id}
use Rattle.lk_sets.specs.Rows.{Rows, has, AddsPair}
use Rattle.lk_sets.specs.Closing.{absent, Grows, Going}
use Rattle.lk_sets.proofs.Members.{has_id-range}
use Rattle.lk_sets.proofs.Reading.{read_cases}

-- a sum with a smaller term is smaller
sum_by-lt : (f g : ℕ → ℕ) (ks : List ℕ) (x : ℕ) → ((y : ℕ) → f y ≤ g y) → has_id ks x ≡ true → f x < g x → sum_by f ks < sum_by g ks
sum_by-lt f g [] x below there less = absurd (both_ways false refl there)
sum_by-lt f g (k ∷ ks) x below there less =
    let rest = sum_by-le-sum_by f g ks below in
    elim (or_cases (eqb k x) (has_id ks x) there) [
      | inl here ↦
          let at : f k < g k = subst (λ y. f y < g y) (sym (eqb-true k x here)) less in
          omega (arith, sum_by-cons f k ks, sum_by-cons g k ks, rest)
      | inr later ↦ omega (arith, sum_by-cons f k ks, sum_by-cons g k ks, below k, sum_by-lt f g ks x below later less)
    ]

missing-le : (p q : Bool) → (p ≡ true → q ≡ true) → cond (not q) 1 0 ≤ cond (not p) 1 0
missing-le true true kept = omega arith
missing-le false true kept = omega arith
missing-le true false kept = absurd (both_ways false refl (kept refl))
missing-le false false kept = omega arith

-- how many pairs are missing in row a
abbrev missing_in : ℕ → Rows → ℕ → ℕ
missing_in n r a = count_by (λ b. not (has r a b)) (range_with_len 0 n)

missing_in-le : (n : ℕ) (old new : Rows) → ((a b : ℕ) → has old a b ≡ true → has new a b ≡ true) → (a : ℕ) → missing_in n new a ≤ missing_in n old a
missing_in-le n old new kept a =
    sum_by-le-sum_by (λ b. cond (not (has new a b)) 1 0) (λ b. cond (not (has old a b)) 1 0) (range_with_len 0 n) (λ b. missing-le (has old a b) (has new a b) (kept a b))

missing_in-lt : (n : ℕ) (old new : Rows) → ((a b : ℕ) → has old a b ≡ true → has new a b ≡ true) → (a b : ℕ) → b < n → has old a b ≡ false → has new a b ≡ true → missing_in n new a < missing_in n old a
missing_in-lt n old new kept a b below lacked has_now =
    sum_by-lt (λ b. cond (not (has new a b)) 1 0) (λ b. cond (not (has old a b)) 1 0) (range_with_len 0 n) b
    (λ b. missing-le (has old a b) (has new a b) (kept a b)) (has_id-range n b ∙ lt-ltb b n below) (rw (lacked, has_now) (omega arith))

-- a new pair makes the measure fall
pub absent_falls : (old new : Rows) → new.size ≡ old.size → ((a b : ℕ) → has old a b ≡ true → has new a b ≡ true) → (a b : ℕ) → a < old.size → b < old.size → has old a b ≡ false → has new a b ≡ true → absent new < absent old
unfolding absent
absent_falls old new size kept a b within below lacked has_now =
    let n = old.size in
    let at_old_size = sum_by-lt (missing_in n new) (missing_in n old) (range_with_len 0 n) a (missing_in-le n old new kept) (has_id-range n a ∙ lt-ltb a n within) (missing_in-lt n old new kept a b below lacked has_now) in
    subst (λ m. sum_by (missing_in m new) (range_with_len 0 m) < sum_by (missing_in n old) (range_with_len 0 n)) (sym size) at_old_size

-- where one pair is put
pub put_grows : (r s : Rows) (a b : ℕ) (changed : Bool) → s.size ≡ r.size → ((x y : ℕ) → has s x y ≡ (has r x y || (eqb x a && eqb y b))) → a < r.size → b < r.size → changed ≡ not (has r a b) → (changed ≡ false → s ≡ r) → Grows r s changed
put_grows r s a b changed size pairs within below is_new same =
    let kept : (x y : ℕ) → has r x y ≡ true → has s x y ≡ true = λ x y h. pairs x y ∙ or_left _ _ h in
    record {
      size = size;
      kept = kept;
      falls = λ h. absent_falls r s size kept a b within below (not-true _ (sym is_new ∙ h)) (pairs a b ∙ or_right _ _ (and_from _ _ (eq-eqb a a refl) (eq-eqb b b refl)));
      same = same;
    }

-- where one row joins another
pub join_grows : (r s : Rows) (from into : ℕ) (changed : Bool) → s.size ≡ r.size → ((x y : ℕ) → has s x y ≡ (has r x y || (eqb x into && has r from y))) → ((x y : ℕ) → has r x y ≡ true → (x < r.size) × (y < r.size)) → into < r.size → (changed ≡ true → AddsPair r from into) → (changed ≡ false → s ≡ r) → Grows r s changed
join_grows r s from into changed size pairs within below adds same =
    let kept : (x y : ℕ) → has r x y ≡ true → has s x y ≡ true = λ x y h. pairs x y ∙ or_left _ _ h in
    record {
      size = size;
      kept = kept;
      falls = λ h.
          let found = adds h in
          absent_falls r s size kept into found.0 below (within from found.0 found.1).1 found.2 (pairs into found.0 ∙ or_right _ _ (and_from _ _ (eq-eqb into into refl) found.1));
      same = same;
    }

pub grows_none : (r : Rows) → Grows r r false
grows_none r = record {
  size = refl;
  kept = λ a b h. h;
  falls = λ h. absurd (both_ways false refl h);
  same = λ _. refl;
}

not_more : (old new : Rows) (changed : Bool) → Grows old new changed → absent new ≤ absent old
not_more old new true g = omega (arith, g.falls refl)
not_more old new false g = let e = ap absent (g.same refl) in omega arith

-- one step behind another
pub grows_twice : {old mid new : Rows} {b c : Bool} → Grows old mid b → Grows mid new c → Grows old new (b || c)
grows_twice {old} {mid} {new} {b} {c} g h = record {
  size = h.size ∙ g.size;
  kept = λ x y p. h.kept x y (g.kept x y p);
  falls = λ changed.
      elim (or_cases b c changed) [
        | inl first ↦ omega (arith, g.falls first, not_more mid new c h)
        | inr second ↦ omega (arith, h.falls second, not_more old mid b g)
      ];
  same = λ none. let parts = or_parts b c none in h.same parts.1 ∙ g.same parts.0;
}

-- where a loop begins
pub going_none : (Sound Done : Rows → Type 0) (r : Rows) → Done r → Going Sound Done r r false
going_none Sound Done r done = record { grows = grows_none r; sound = λ s. s; done = λ _. done }

-- one step more: what was done so far and what the step does are what is done then
pub going_more : {Sound Done Step More : Rows → Type 0} {first mid now : Rows} {b c : Bool} → ((r : Rows) → Done r → Step r → More r) → Going Sound Done first mid b → Going Sound Step mid now c → Going Sound More first now (b || c)
going_more {Sound} {Done} {Step} {More} {first} {mid} {now} {b} {c} joins g h = record {
  grows = grows_twice g.grows h.grows;
  sound = λ s. h.sound (g.sound s);
  done = λ none.
      let parts = or_parts b c none in
      joins now (subst Done (sym (h.grows.same parts.1)) (g.done parts.0)) (h.done parts.1);
}

-- what is done says more than is asked
pub going_weaker : {Sound Done Less : Rows → Type 0} {first now : Rows} {b : Bool} → ((r : Rows) → Done r → Less r) → Going Sound Done first now b → Going Sound Less first now b
going_weaker {Sound} {Done} {Less} {first} {now} {b} says g = record { grows = g.grows; sound = g.sound; done = λ none. says now (g.done none) }

-- a loop up over numbers: each below i is done, and the step does i
pub going_up : {Sound : Rows → Type 0} (Step : Rows → ℕ → Type 0) (i : ℕ) {first mid now : Rows} {b c : Bool} → Going Sound (λ r. (k : ℕ) → k < i → Step r k) first mid b → Going Sound (λ r. Step r i) mid now c → Going Sound (λ r. (k : ℕ) → k < i + 1 → Step r k) first now (b || c)
going_up Step i g h = going_more (λ r done here. below_more (Step r) i done here) g h

one_down : (P : ℕ → Type 0) (n i : ℕ) → 0 < i → ((k : ℕ) → i ≤ k → k < n → P k) → P (i - 1) → (k : ℕ) → i - 1 ≤ k → k < n → P k
one_down P n i some done here k above below =
    elim (cases_lt k i) [
      | inr higher ↦ done k higher below
      | inl lower ↦ let same : i - 1 ≡ k = omega arith in subst P same here
    ]

-- a loop down over numbers below n, by `.rev()`: each from i on is done, and the step does i - 1
pub going_down : {Sound : Rows → Type 0} (Step : Rows → ℕ → Type 0) (n i : ℕ) {first mid now : Rows} {b c : Bool} → 0 < i → Going Sound (λ r. (k : ℕ) → i ≤ k → k < n → Step r k) first mid b → Going Sound (λ r. Step r (i - 1)) mid now c → Going Sound (λ r. (k : ℕ) → i - 1 ≤ k → k < n → Step r k) first now (b || c)
going_down Step n i some g h = going_more (λ r done here. one_down (Step r) n i some done here) g h

-- a loop over a list: each of the first i elements is done, and the step does the next
pub going_each : {Sound : Rows → Type 0} {X : Type 0} (Step : Rows → X → Type 0) (xs : List X) (i : ℕ) (d : X) {first mid now : Rows} {b c : Bool} → i < length xs → Going Sound (λ r. All (Step r) (take i xs)) first mid b → Going Sound (λ r. Step r (get_or xs i d)) mid now c → Going Sound (λ r. All (Step r) (take (i + 1) xs)) first now (b || c)
going_each Step xs i d within g h = going_more (λ r done here. All-more (Step r) xs i d within done here) g h

-- the end of such a loop
pub going_all : {Sound : Rows → Type 0} {X : Type 0} (Step : Rows → X → Type 0) (xs : List X) (i : ℕ) {first now : Rows} {b : Bool} → length xs ≤ i → Going Sound (λ r. All (Step r) (take i xs)) first now b → Going Sound (λ r. All (Step r) xs) first now b
going_all Step xs i past g = going_weaker (λ r done. subst (All (Step r)) (take_all i xs past) done) g

-- a loop over a row: each number of the row is still left, or its step is done
abbrev pub DoneBut : (Rows → ℕ → Type 0) → List ℕ → List ℕ → Rows → Type 0
DoneBut Step row left r = (y : ℕ) → has_id row y ≡ true → (has_id left y ≡ true) ⊎ Step r y

-- its start
pub going_row_none : (Sound : Rows → Type 0) (Step : Rows → ℕ → Type 0) (row left : List ℕ) (r : Rows) → left ≡ row → Going Sound (DoneBut Step row left) r r false
going_row_none Sound Step row left r e = going_none Sound _ r (λ y h. inl (ap (λ ids. has_id ids y) e ∙ h))

-- c was left, and the step does it
pub going_row : {Sound : Rows → Type 0} (Step : Rows → ℕ → Type 0) (row : List ℕ) {left rest : List ℕ} {k : ℕ} {first mid now : Rows} {b c : Bool} → left ≡ k ∷ rest → Going Sound (DoneBut Step row left) first mid b → Going Sound (λ r. Step r k) mid now c → Going Sound (DoneBut Step row rest) first now (b || c)
going_row {Sound} Step row {left} {rest} {k} e g h =
    going_more (λ r done here y there. elim (done y there) [
      | inr before ↦ inr before
      | inl was_left ↦ elim (read_cases e y was_left) [ inl same ↦ inr (subst (Step r) same here) | inr later ↦ inl later ]
    ]) g h

-- its end
pub going_row_all : {Sound : Rows → Type 0} (Step : Rows → ℕ → Type 0) (row left : List ℕ) {first now : Rows} {b : Bool} → left ≡ [] → Going Sound (DoneBut Step row left) first now b → Going Sound (λ r. (y : ℕ) → has_id row y ≡ true → Step r y) first now b
going_row_all Step row left e g =
    going_weaker (λ r done y there. elim (done y there) [
      | inl was_left ↦ absurd (both_ways false refl (sym (ap (λ ids. has_id ids y) e) ∙ was_left))
      | inr step ↦ step
    ]) g

-- Where a loop stands between two rounds: no pair is lost, and what was sound is.
pub record Grown (Sound : Rows → Type 0) (first now : Rows) : Type 0 where
  pub size : now.size ≡ first.size
  pub kept : (a b : ℕ) → has first a b ≡ true → has now a b ≡ true
  pub sound : Sound first → Sound now

pub grown_none : (Sound : Rows → Type 0) (r : Rows) → Grown Sound r r
grown_none Sound r = record { size = refl; kept = λ a b h. h; sound = λ s. s }

-- one round more
pub grown_more : {Sound Done : Rows → Type 0} {first mid now : Rows} {c : Bool} → Grown Sound first mid → Going Sound Done mid now c → Grown Sound first now
grown_more g h = record {
  size = h.grows.size ∙ g.size;
  kept = λ a b p. h.grows.kept a b (g.kept a b p);
  sound = λ s. h.sound (g.sound s);
}

-- a round of a loop that notes whether any round has found a pair
pub round_found : {Sound Done : Rows → Type 0} {first mid now : Rows} {b c : Bool} → c ≡ true → Going Sound (λ _. ⊤) first mid b → Going Sound Done mid now c → Going Sound (λ _. ⊤) first now true
round_found {Sound} {first = first} {now = now} {b = b} {c = c} found g h =
    subst (Going Sound (λ _. ⊤) first now) (or_right b c found) (going_more (λ _ _ _. tt) g h)

pub round_none : {Sound Done : Rows → Type 0} {first mid now : Rows} {b c : Bool} → c ≡ false → Going Sound (λ _. ⊤) first mid b → Going Sound Done mid now c → Going Sound (λ _. ⊤) first now b
round_none {Sound} {first = first} {now = now} {b = b} {c = c} none g h = subst (Going Sound (λ _. ⊤) first now) (or_none b c none) (going_more (λ _ _ _. tt) g h)
  where
    or_none : (p q : Bool) → q ≡ false → (p || q) ≡ p
    or_none true q e = refl
    or_none false q e = e
