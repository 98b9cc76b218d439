-- The order of faults and its test.
use Rattle.std.proofs.Common.{◌≡◌, ◌∙◌, ◌<◌, ◌⊎◌, ℕ, Bool, true, false, nat_lt, refl, sym, ap, arith, inl, inr}
use Rattle.std.proofs.lemmas.Bool.{false≢true}
use Rattle.lk_base.specs.Code.{number_of}
use Rattle.lk_base.specs.declared.spot.Spot.{Spot}
use Rattle.lk_typed.specs.Faults.{Fault, IsBefore}
use Rattle.lk_rules.specs.FirstFaults.{less_or, comes_before}

-- ---- one step of the test

less_first : (a b : ℕ) (rest : Bool) → a < b → less_or a b rest ≡ true
unfolding less_or
less_first a b rest less = grind arith

less_next : (a b : ℕ) (rest : Bool) → a ≡ b → rest ≡ true → less_or a b rest ≡ true
unfolding less_or
less_next a b rest same holds = grind arith

not_self : (a : ℕ) (rest : Bool) → rest ≡ false → less_or a a rest ≡ false
unfolding less_or
not_self a true never = absurd (false≢true (sym never))
not_self a false never = grind arith

-- what isn't less, and then not less again, isn't less
not_again : (a b c : ℕ) (p q r : Bool) → (p ≡ false → q ≡ false → r ≡ false) → less_or a b p ≡ false → less_or b c q ≡ false → less_or a c r ≡ false
unfolding less_or
not_again a b c true q r next h i = grind arith
not_again a b c false true r next h i = grind arith
not_again a b c false false r next h i = let e = next refl refl in grind arith

-- what is less isn't so the other way round
not_turned : (a b : ℕ) (p q : Bool) → (p ≡ true → q ≡ false) → less_or a b p ≡ true → less_or b a q ≡ false
unfolding less_or
not_turned a b true q next h = let e = next refl in grind arith
not_turned a b false q next h = grind arith

last_again : (a b c : ℕ) → nat_lt a b ≡ false → nat_lt b c ≡ false → nat_lt a c ≡ false
last_again a b c h i = grind arith

last_turned : (a b : ℕ) → nat_lt a b ≡ true → nat_lt b a ≡ false
last_turned a b h = grind arith

last_self : (a : ℕ) → nat_lt a a ≡ false
last_self a = grind arith

last_less : (a b : ℕ) → a < b → nat_lt a b ≡ true
last_less a b less = grind arith

-- ---- the test

pub not_itself : (f : Fault) → comes_before f f ≡ false
not_itself f = not_self _ _ (not_self _ _ (not_self _ _ (not_self _ _ (last_self f.ordinal))))

pub not_before : (f g h : Fault) → comes_before f g ≡ false → comes_before g h ≡ false → comes_before f h ≡ false
not_before f g h = not_again _ _ _ _ _ _ (not_again _ _ _ _ _ _ (not_again _ _ _ _ _ _ (not_again _ _ _ _ _ _ (last_again f.ordinal g.ordinal h.ordinal))))

pub not_behind : (f g : Fault) → comes_before f g ≡ true → comes_before g f ≡ false
not_behind f g = not_turned _ _ _ _ (not_turned _ _ _ _ (not_turned _ _ _ _ (not_turned _ _ _ _ (last_turned f.ordinal g.ordinal))))

-- it tells each fault that is before another
pub tells : (f g : Fault) → IsBefore f g → comes_before f g ≡ true
tells f g (inl (inl p)) = less_first _ _ _ p
tells f g (inl (inr (inl p))) = less_next _ _ _ p.0 (less_first _ _ _ p.1)
tells f g (inl (inr (inr p))) = less_next _ _ _ p.0 (less_next _ _ _ p.1 (less_first _ _ _ p.2))
tells f g (inr (inl p)) =
    less_next _ _ _ (ap (λ s. s.file) p.0) (less_next _ _ _ (ap (λ s. s.line) p.0) (less_next _ _ _ (ap (λ s. s.col) p.0) (less_first _ _ _ p.1)))
tells f g (inr (inr p)) =
    less_next _ _ _ (ap (λ s. s.file) p.0) (less_next _ _ _ (ap (λ s. s.line) p.0) (less_next _ _ _ (ap (λ s. s.col) p.0)
    (less_next _ _ _ p.1 (last_less f.ordinal g.ordinal p.2))))

-- ---- what the test tells

is_less : (a b : ℕ) → nat_lt a b ≡ true → a < b
is_less a b is = grind arith

are_equal : (a b : ℕ) (rest : Bool) → nat_lt a b ≡ false → less_or a b rest ≡ true → a ≡ b
unfolding less_or
are_equal a b true is h = grind arith
are_equal a b false is h = grind arith

goes_on : (a b : ℕ) (rest : Bool) → nat_lt a b ≡ false → less_or a b rest ≡ true → rest ≡ true
unfolding less_or
goes_on a b true is h = refl
goes_on a b false is h = grind arith

told_or : (a b : ℕ) (rest : Bool) → less_or a b rest ≡ true → (a < b) ⊎ ((a ≡ b) × (rest ≡ true))
told_or a b rest h = by_less (nat_lt a b) refl
  where
    by_less : (less : Bool) → nat_lt a b ≡ less → (a < b) ⊎ ((a ≡ b) × (rest ≡ true))
    by_less true is = inl (is_less a b is)
    by_less false is = inr (are_equal a b rest is h, goes_on a b rest is h)

same_spot : (a b : Spot) → a.file ≡ b.file → a.line ≡ b.line → a.col ≡ b.col → a ≡ b
same_spot a b file line col =
    ap (λ n. record a { file = n }) file ∙ ap (λ n. record { file = b.file; line = n; col = a.col }) line ∙ ap (λ n. record { file = b.file; line = b.line; col = n }) col

pub is_before : (f g : Fault) → comes_before f g ≡ true → IsBefore f g
is_before f g h = by_file (told_or f.spot.file g.spot.file _ h)
  where
    by_number : f.spot ≡ g.spot → (number_of f.breach.code < number_of g.breach.code) ⊎ ((number_of f.breach.code ≡ number_of g.breach.code) × (nat_lt f.ordinal g.ordinal ≡ true)) → IsBefore f g
    by_number same (inl less) = inr (inl (same, less))
    by_number same (inr both) = inr (inr (same, both.0, is_less f.ordinal g.ordinal both.1))

    by_column : f.spot.file ≡ g.spot.file → f.spot.line ≡ g.spot.line →
        (f.spot.col < g.spot.col) ⊎ ((f.spot.col ≡ g.spot.col) × (less_or (number_of f.breach.code) (number_of g.breach.code) (nat_lt f.ordinal g.ordinal) ≡ true)) → IsBefore f g
    by_column file line (inl less) = inl (inr (inr (file, line, less)))
    by_column file line (inr both) = by_number (same_spot f.spot g.spot file line both.0) (told_or _ _ _ both.1)

    by_line : f.spot.file ≡ g.spot.file →
        (f.spot.line < g.spot.line) ⊎
        ((f.spot.line ≡ g.spot.line) × (less_or f.spot.col g.spot.col (less_or (number_of f.breach.code) (number_of g.breach.code) (nat_lt f.ordinal g.ordinal)) ≡ true)) → IsBefore f g
    by_line file (inl less) = inl (inr (inl (file, less)))
    by_line file (inr both) = by_column file both.0 (told_or _ _ _ both.1)

    by_file : (f.spot.file < g.spot.file) ⊎
        ((f.spot.file ≡ g.spot.file) ×
        (less_or f.spot.line g.spot.line (less_or f.spot.col g.spot.col (less_or (number_of f.breach.code) (number_of g.breach.code) (nat_lt f.ordinal g.ordinal))) ≡ true)) → IsBefore f g
    by_file (inl less) = inl (inl less)
    by_file (inr both) = by_line both.0 (told_or _ _ _ both.1)

-- ---- what isn't before

pub isnt_itself : (f : Fault) → IsBefore f f → ⊥
isnt_itself f before = false≢true (sym (not_itself f) ∙ tells f f before)

isnt_told : (f g : Fault) → (IsBefore f g → ⊥) → comes_before f g ≡ false
isnt_told f g never = by_test (comes_before f g) refl
  where
    by_test : (b : Bool) → comes_before f g ≡ b → comes_before f g ≡ false
    by_test true is = absurd (never (is_before f g is))
    by_test false is = is

pub isnt_again : (f g h : Fault) → (IsBefore f g → ⊥) → (IsBefore g h → ⊥) → IsBefore f h → ⊥
isnt_again f g h first second before = false≢true (sym (not_before f g h (isnt_told f g first) (isnt_told g h second)) ∙ tells f h before)
