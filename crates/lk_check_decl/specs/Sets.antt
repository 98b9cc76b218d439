-- What a set keeps that stands beside a list, and by which it is known at once
-- whether something is in the list.
use Rattle.std.specs.Prelude.{◌≡◌, Bool, List}
use Rattle.std.specs.List.{list_any}

-- the set has what the list has
abbrev pub HasSame : {A : Type 0} → (A → A → Bool) → List A → List A → Type 0
HasSame {A} same keys items = (x : A) → list_any (same x) keys ≡ list_any (same x) items
