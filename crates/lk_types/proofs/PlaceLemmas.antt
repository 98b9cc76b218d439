-- Where the walks of parts stand in the walk of a type.
use Rattle.std.proofs.Common.{◌≡◌, ◌∙◌, ◌+◌, ◌⊎◌, inl, inr, ℕ, zero, suc, Bool, true, false, List, [], ◌∷◌, ◌++◌, length, map, refl, sym, ap, arith, Option, Some, None}
use Rattle.std.specs.List.{flat_map, slice_get}
use Rattle.std.specs.Option.{option_map}
use Rattle.std.proofs.lemmas.List.Elements.{All-head, All-tail}
use Rattle.std.proofs.lemmas.Option.{none-some, same_Some, slice_get-map}
use Rattle.lk_types.specs.Walks.{Branch, Entry, at_branch, under}
use Rattle.lk_types.proofs.Entries.{OfParts}

-- the entries of a part begin at this place below a Start
pub data Stands (f : ℕ → List Entry) : List Branch → Branch → ℕ → Type 0 where
  here : {b : Branch} {bs : List Branch} → Stands f (b ∷ bs) b 0
  later : {b c : Branch} {bs : List Branch} {o : ℕ} → Stands f bs b o → Stands f (c ∷ bs) b (length (at_branch f c) + o)

get-left : {X : Type 0} (xs ys : List X) (j : ℕ) (x : X) → slice_get xs j ≡ Some x → slice_get (xs ++ ys) j ≡ Some x
get-left [] ys j x is = absurd (none-some x is)
get-left (y ∷ xs) ys zero x is = is
get-left (y ∷ xs) ys (suc j) x is = get-left xs ys j x is

get-right : {X : Type 0} (xs ys : List X) (j : ℕ) → slice_get (xs ++ ys) (length xs + j) ≡ slice_get ys j
get-right [] ys j = let e : 0 + j ≡ j = omega arith in ap (slice_get ys) e
get-right (x ∷ xs) ys j = let e : suc (length xs) + j ≡ suc (length xs + j) = omega arith in ap (slice_get (x ∷ (xs ++ ys))) e ∙ get-right xs ys j

-- what stands in two lists together stands in the first or in the second
pub get-either : {X : Type 0} (xs ys : List X) (k : ℕ) (x : X) → slice_get (xs ++ ys) k ≡ Some x →
    (slice_get xs k ≡ Some x) ⊎ ((j : ℕ) × (k ≡ length xs + j) × (slice_get ys j ≡ Some x))
get-either [] ys k x is = inr (k, omega arith, is)
get-either (y ∷ xs) ys zero x is = inl is
get-either (y ∷ xs) ys (suc k) x is = elim (get-either xs ys k x is) [
  | inl h ↦ inl h
  | inr h ↦ inr (h.0, omega (arith, h.1), h.2)
]

pub get_part : (f : ℕ → List Entry) {bs : List Branch} {b : Branch} {o : ℕ} → Stands f bs b o → (j : ℕ) (x : Entry) → slice_get (at_branch f b) j ≡ Some x → slice_get (flat_map (at_branch f) bs) (o + j) ≡ Some x
get_part f (here {b} {bs}) j x is = let e : 0 + j ≡ j = omega arith in ap (slice_get (at_branch f b ++ flat_map (at_branch f) bs)) e ∙ get-left (at_branch f b) (flat_map (at_branch f) bs) j x is
get_part f (later {b} {c} {bs} {o} at) j x is =
    let e : length (at_branch f c) + o + j ≡ length (at_branch f c) + (o + j) = omega arith in
    ap (slice_get (at_branch f c ++ flat_map (at_branch f) bs)) e ∙ get-right (at_branch f c) (flat_map (at_branch f) bs) (o + j) ∙ get_part f at j x is

-- the part in which an entry below a Start stands
pub record Located (f : ℕ → List Entry) (bs : List Branch) (k : ℕ) (x : Entry) : Type 0 where
  pub part : Branch
  pub place : ℕ
  pub rest : ℕ
  pub at : Stands f bs part place
  pub number : k ≡ place + rest
  pub entry : slice_get (at_branch f part) rest ≡ Some x

pub located : (f : ℕ → List Entry) (bs : List Branch) (k : ℕ) (x : Entry) → slice_get (flat_map (at_branch f) bs) k ≡ Some x → Located f bs k x
located f [] k x is = absurd (none-some x is)
located f (b ∷ bs) k x is = elim (get-either (at_branch f b) (flat_map (at_branch f) bs) k x is) [
  | inl h ↦ record { part = b; place = 0; rest = k; at = here; number = omega arith; entry = h }
  | inr h ↦ let found = located f bs h.0 x h.2 in
      record { part = found.part; place = length (at_branch f b) + found.place; rest = found.rest; at = later found.at; number = omega (arith, h.1, found.number); entry = found.entry }
]

-- what holds of each part holds of one
pub of_part : (f : ℕ → List Entry) (P : ℕ → Type 0) {bs : List Branch} {b : Branch} {o : ℕ} → Stands f bs b o → OfParts P bs → b.tag ≡ false → P b.type
of_part f P (here {b} {bs}) all is = All-head (λ b. b.tag ≡ false → P b.type) b bs all is
of_part f P (later {b} {c} {bs} at) all is = of_part f P at (All-tail (λ b. b.tag ≡ false → P b.type) c bs all) is

-- what stands for a part that is no Tag
pub inside_is : (f : ℕ → List Entry) (b : Branch) → b.tag ≡ false → at_branch f b ≡ map (under b.sel) (f b.type)
inside_is f b is = rw is refl

pub got_inside : (f : ℕ → List Entry) (b : Branch) → b.tag ≡ false → (j : ℕ) (e : Entry) → slice_get (f b.type) j ≡ Some e → slice_get (at_branch f b) j ≡ Some (under b.sel e)
got_inside f b is j e at = ap (λ es. slice_get es j) (inside_is f b is) ∙ slice_get-map (under b.sel) (f b.type) j ∙ ap (option_map (under b.sel)) at

-- an entry that stands for a part is the Tag's place, or an entry of its walk below the step
pub data IsOfPart (f : ℕ → List Entry) (b : Branch) (j : ℕ) (x : Entry) : Type 0 where
  of_tag : b.tag ≡ true → j ≡ 0 → x ≡ record { path = b.sel ∷ []; type = b.type; tag = true } → IsOfPart f b j x
  of_walk : b.tag ≡ false → (e : Entry) → slice_get (f b.type) j ≡ Some e → x ≡ under b.sel e → IsOfPart f b j x

mapped_from : {X Y : Type 0} (g : X → Y) (o : Option X) (y : Y) → option_map g o ≡ Some y → (x : X) × (o ≡ Some x) × (y ≡ g x)
mapped_from g None y is = absurd (none-some y is)
mapped_from g (Some x) y is = (x, refl, sym (same_Some (g x) y is))

pub single : {X : Type 0} (z : X) (j : ℕ) (x : X) → slice_get (z ∷ []) j ≡ Some x → (j ≡ 0) × (x ≡ z)
single z zero x is = (refl, sym (same_Some z x is))
single z (suc j) x is = absurd (none-some x is)

pub of_part_entry : (f : ℕ → List Entry) (b : Branch) (j : ℕ) (x : Entry) → slice_get (at_branch f b) j ≡ Some x → IsOfPart f b j x
of_part_entry f b j x is = of b.tag refl
  where
    of : (tag : Bool) → b.tag ≡ tag → IsOfPart f b j x
    of true tagged = let one = single (record { path = b.sel ∷ []; type = b.type; tag = true }) j x (rw tagged at is) in of_tag tagged one.0 one.1
    of false plain =
        let got = mapped_from (under b.sel) (slice_get (f b.type) j) x (sym (slice_get-map (under b.sel) (f b.type) j) ∙ sym (ap (λ es. slice_get es j) (inside_is f b plain)) ∙ is) in
        of_walk plain got.0 got.1 got.2
