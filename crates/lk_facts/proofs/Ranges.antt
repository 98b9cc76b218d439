-- What is read from a program or its labels is in range.
use Rattle.std.proofs.Common.{◌≡◌, ◌<◌, ℕ, true, false, List, length, Option, Some, None, refl, subst}
use Rattle.std.specs.Option.{option_and_then, option_map, option_map_or, IfSome}
use Rattle.std.specs.Prelude.{slice_get}
use Rattle.std.proofs.lemmas.Bool.{false≢true}
use Rattle.std.proofs.lemmas.Option.{slice_get_within, none-some, same_Some}
use Rattle.lk_facts.specs.InRange.{IsInRange, IsPointInRange, IsFunctionInRange, sizes_of}
use Rattle.lk_facts.specs.Labels.{LabelTable, target_at, is_lock_at, AreLabelsInRange}
use Rattle.lk_facts.specs.Program.{live_at, function_at, entry_of, exit_of}
use Rattle.lk_facts.specs.declared.program.Program.{Program}
use Rattle.lk_facts.specs.declared.label_entry.LabelEntry.{LabelEntry}
use Rattle.lk_facts.specs.declared.point.Point.{Point}
use Rattle.lk_facts.proofs.Sets.{All-got}

-- what was got from a list stands in it
got_within : {X Y : Type 0} (read : X → Y) (xs : List X) (i : ℕ) (y : Y) → option_map read (slice_get xs i) ≡ Some y → (x : X) × (slice_get xs i ≡ Some x) × (read x ≡ y)
got_within {X} {Y} read xs i y is = of (slice_get xs i) refl is
  where
    of : (got : Option X) → slice_get xs i ≡ got → option_map read got ≡ Some y → (x : X) × (slice_get xs i ≡ Some x) × (read x ≡ y)
    of None at is' = absurd (none-some y is')
    of (Some x) at is' = (x, at, same_Some (read x) y is')

-- a live point is one of the points
pub live_within : (program : Program) (p : ℕ) → live_at program p ≡ true → p < length program.points
live_within program p live = of (slice_get program.points p) refl live
  where
    of : (got : Option Point) → slice_get program.points p ≡ got → option_map_or (λ point. point.live) got false ≡ true → p < length program.points
    of None at is = absurd (false≢true is)
    of (Some point) at is = slice_get_within program.points p point at

-- a live point is a step of one of the functions
pub live_function_within : (program : Program) → IsInRange program → (p f : ℕ) → live_at program p ≡ true → function_at program p ≡ Some f → f < length program.functions
live_function_within program fits p f live of_f =
    let got = got_within (λ point. point.function) program.points p f of_f in
    let point = All-got (IsPointInRange (sizes_of program)) program.points p got.0 fits.parts.points got.1 in
    subst (λ g. g < length program.functions) got.2 (point.live (subst (λ o. option_map_or (λ point. point.live) o false ≡ true) got.1 live))

-- a function that begins somewhere is one of the functions
pub entry_function_within : (program : Program) (f p : ℕ) → entry_of program f ≡ Some p → f < length program.functions
entry_function_within program f p is = let got = got_within (λ function. function.entry) program.functions f p is in slice_get_within program.functions f got.0 got.1

pub entry_within : (program : Program) → IsInRange program → (f p : ℕ) → entry_of program f ≡ Some p → p < length program.points
entry_within program fits f p is =
    let got = got_within (λ function. function.entry) program.functions f p is in
    subst (λ q. q < length program.points) got.2 (All-got (IsFunctionInRange (sizes_of program)) program.functions f got.0 fits.parts.functions got.1).entry

pub exit_within : (program : Program) → IsInRange program → (f e : ℕ) → exit_of program f ≡ Some e → e < length program.points
exit_within program fits f e is =
    let got = got_within (λ function. function.exit) program.functions f e is in
    subst (λ p. p < length program.points) got.2 (All-got (IsFunctionInRange (sizes_of program)) program.functions f got.0 fits.parts.functions got.1).exit

-- the label of what a point's value points to is one of the labels
pub target_within : (labels : LabelTable) → AreLabelsInRange labels → (p l : ℕ) → target_at labels p ≡ Some l → l < length labels.entries
target_within labels fits p l is = of (slice_get labels.targets p) refl is
  where
    of : (got : Option (Option ℕ)) → slice_get labels.targets p ≡ got → option_and_then (λ target. target) got ≡ Some l → l < length labels.entries
    of None at is' = absurd (none-some l is')
    of (Some target) at is' =
        subst (λ t. IfSome t (λ l. l < length labels.entries)) is' (All-got (λ t. IfSome t (λ l. l < length labels.entries)) labels.targets p target fits.targets at)

-- a lock label is one of the labels
pub lock_within : (labels : LabelTable) (l : ℕ) → is_lock_at labels l ≡ true → l < length labels.entries
lock_within labels l lock = of (slice_get labels.entries l) refl lock
  where
    of : (got : Option LabelEntry) → slice_get labels.entries l ≡ got → option_map_or (λ entry. entry.is_lock) got false ≡ true → l < length labels.entries
    of None at is = absurd (false≢true is)
    of (Some entry) at is = slice_get_within labels.entries l entry at
