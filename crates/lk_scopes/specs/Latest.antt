-- The last one of a list that has a name (C99 6.2.1, 4: the innermost declaration hides those before it).
use Rattle.std.specs.Prelude.{ℕ, Bool, Option, Some, None, List, [], ◌∷◌, if◌then◌else◌, nat_eq}
use Rattle.std.specs.Cmp.Lexicographic.{pointwise}

abbrev pub Name : Type 0
Name = List ℕ

abbrev pub is_name : Name → Name → Bool
is_name = pointwise nat_eq

abbrev pub or_else : {A : Type 0} → Option A → Option A → Option A
or_else (Some a) b = Some a
or_else None b = b

-- the last one that passes the test
abbrev pub latest : {A : Type 0} → (A → Bool) → List A → Option A
latest test [] = None
latest test (a ∷ others) = or_else (latest test others) (if test a then Some a else None)
