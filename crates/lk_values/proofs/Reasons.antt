-- Why an option is there, and why no cause holds.
use Rattle.std.proofs.Common.{◌≡◌, Bool, true, false, Option, None, Some, refl, sym}
use Rattle.std.proofs.lemmas.Option.{none-some, same_Some}
use Rattle.std.specs.Option.{option_and_then, option_map}
use Rattle.std.specs.Prelude.{if◌then◌else◌, nat_le}
use Rattle.lk_values.specs.Causes.{◌or◌, ◌when◌, rank}
use Rattle.lk_values.specs.declared.why.Why.{Why}

-- ---- options

-- what is there and was made by a function
pub mapped : {X Y : Type 0} → (f : X → Y) (o : Option X) (y : Y) → option_map f o ≡ Some y → (x : X) × (o ≡ Some x) × (f x ≡ y)
mapped f None y h = absurd (none-some y h)
mapped f (Some x) y h = (x, refl, same_Some (f x) y h)

pub chained : {X Y : Type 0} → (f : X → Option Y) (o : Option X) (y : Y) → option_and_then f o ≡ Some y → (x : X) × (o ≡ Some x) × (f x ≡ Some y)
chained f None y h = absurd (none-some y h)
chained f (Some x) y h = (x, refl, h)

-- ---- causes

pub neither_cause : (a b : Option Why) → (a or b) ≡ None → (a ≡ None) × (b ≡ None)
neither_cause None b h = (refl, h)
neither_cause (Some x) None h = absurd (none-some x (sym h))
neither_cause (Some x) (Some y) h = absurd (none-some (if nat_le (rank x) (rank y) then x else y) (sym h))

pub not_when : (reason : Why) (test : Bool) → (reason when test) ≡ None → test ≡ false
not_when reason true h = absurd (none-some reason (sym h))
not_when reason false h = refl
