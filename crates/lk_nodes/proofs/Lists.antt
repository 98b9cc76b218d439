-- Parts that a walk numbers one behind the other: a list, and a part that may be missing.
use Rattle.std.proofs.Common.{◌≤◌, ℕ, List, [], ◌∷◌, Option, Some, None, map, arith}
use Rattle.std.specs.Prelude.{⊤}
use Rattle.lk_tree.specs.Numbers.{Numbered, list, list_of, optional_of}

-- a value with a proof
abbrev pub With : {A : Type 0} → (A → Type 0) → Type 0
With {A} Q = (a : A) × Q a

-- it holds of what is there
abbrev pub IfThere : {A : Type 0} → (A → Type 0) → Option A → Type 0
IfThere P None = ⊤
IfThere P (Some x) = P x

-- what a walk makes, from each number on, lies from there up to the number behind it
abbrev pub Lays : {A : Type 0} → (A → ℕ → ℕ → Type 0) → Numbered A → Type 0
Lays R number = (n : ℕ) → R (number n).0 n (number n).1

module _ {A : Type 0} (R : A → ℕ → ℕ → Type 0) where
  -- the parts of a list lie one behind the other
  pub data ListLies : List A → ℕ → ℕ → Type 0 where
    no_more : {n m : ℕ} → n ≤ m → ListLies [] n m
    one_more : {n k m : ℕ} {a : A} {others : List A} → R a n k → ListLies others k m → ListLies (a ∷ others) n m

  -- a part lies there, if it isn't missing
  pub data OptionLies : Option A → ℕ → ℕ → Type 0 where
    missing : {n m : ℕ} → n ≤ m → OptionLies None n m
    present : {n m : ℕ} {a : A} → R a n m → OptionLies (Some a) n m

  module _ (number : A → Numbered A) where
    -- the parts of a list, each numbered behind the one before it
    pub list_lies : (xs : List (With (λ a. Lays R (number a)))) → Lays ListLies (list (map number (map (λ a. a.0) xs)))
    list_lies [] n = no_more (omega arith)
    list_lies (x ∷ xs) n = one_more (x.1 n) (list_lies xs _)

    -- the same of parts that are numbered by one function
    pub list_of_lies : ((a : A) → Lays R (number a)) → (xs : List A) → Lays ListLies (list_of number xs)
    list_of_lies each [] n = no_more (omega arith)
    list_of_lies each (x ∷ xs) n = one_more (each x n) (list_of_lies each xs _)

    -- a part that may be missing
    pub option_of_lies : ((a : A) → Lays R (number a)) → (part : Option A) → Lays OptionLies (optional_of number part)
    option_of_lies each None n = missing (omega arith)
    option_of_lies each (Some a) n = present (each a n)
