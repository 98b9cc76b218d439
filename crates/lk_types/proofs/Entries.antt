-- How many entries a walk has, and how deep they stand.
use Rattle.std.proofs.Common.{◌≡◌, ◌∙◌, ◌≤◌, ◌+◌, ℕ, suc, Bool, true, false, List, [], ◌∷◌, ◌++◌, length, map, max, refl, sym, ap, arith, All, length-append}
use Rattle.std.specs.List.{flat_map, fold}
use Rattle.std.proofs.lemmas.List.{length-map}
use Rattle.std.proofs.lemmas.List.Elements.{All-nil, All-cons, All-head, All-tail}
use Rattle.lk_types.specs.Sizes.{deepest, with_part, part_size, size_of_parts, start_size}
use Rattle.lk_types.specs.Walks.{Branch, Entry, at_branch, under}
use Rattle.lk_types.specs.declared.node.Sel.{Sel}
use Rattle.lk_types.specs.declared.size.TypeSize.{TypeSize}

pub deepest-append : (xs ys : List Entry) → deepest (xs ++ ys) ≡ max (deepest xs) (deepest ys)
deepest-append [] ys = omega arith
deepest-append (x ∷ xs) ys = omega (arith, deepest-append xs ys)

pub deepest-under : (sel : Sel) (e : Entry) (es : List Entry) → deepest (map (under sel) (e ∷ es)) ≡ suc (deepest (e ∷ es))
deepest-under sel e [] = omega arith
deepest-under sel e (x ∷ es) = omega (arith, deepest-under sel x es)

-- a list of entries that begins with some entry
pub data IsBegun : List Entry → Type 0 where
  begun : {e : Entry} {es : List Entry} → IsBegun (e ∷ es)

pub deepest-begun : (sel : Sel) (es : List Entry) → IsBegun es → deepest (map (under sel) es) ≡ suc (deepest es)
deepest-begun sel (e ∷ es) h = deepest-under sel e es
deepest-begun sel [] h = elim h [ ]

-- P holds of the type of each part that is no Tag
abbrev pub OfParts : (ℕ → Type 0) → List Branch → Type 0
OfParts P bs = All (λ b. b.tag ≡ false → P b.type) bs

abbrev pub size_of : List Entry → TypeSize
size_of es = record { nodes = length es; steps = deepest es }

pub same_size : {n m s r : ℕ} → n ≡ m → s ≡ r → ◌≡◌ {A = TypeSize} (record { nodes = n; steps = s }) (record { nodes = m; steps = r })
same_size p q = cc

module _ (f : ℕ → List Entry) (begins : (t : ℕ) → IsBegun (f t)) where
  -- of a part: how many entries stand for it
  nodes-at : (b : Branch) → (part_size (λ t. size_of (f t)) b).nodes ≡ length (at_branch f b)
  nodes-at b = of b.tag refl
    where
      of : (tag : Bool) → b.tag ≡ tag → (part_size (λ t. size_of (f t)) b).nodes ≡ length (at_branch f b)
      of true is = rw is
      of false is = rw is (sym (length-map (f b.type) (under b.sel)))

  steps-at : (b : Branch) → suc (part_size (λ t. size_of (f t)) b).steps ≡ deepest (at_branch f b)
  steps-at b = of b.tag refl
    where
      of : (tag : Bool) → b.tag ≡ tag → suc (part_size (λ t. size_of (f t)) b).steps ≡ deepest (at_branch f b)
      of true is = rw is (omega arith)
      of false is = rw is (sym (deepest-begun b.sel (f b.type) (begins b.type)))

  steps-inside : (b : Branch) → b.tag ≡ false → suc (deepest (f b.type)) ≡ deepest (at_branch f b)
  steps-inside b is = rw is (sym (deepest-begun b.sel (f b.type) (begins b.type)))

  -- where nothing stands below a Start, there is no entry
  pub none_below : (bs : List Branch) → deepest (flat_map (at_branch f) bs) ≤ 0 → flat_map (at_branch f) bs ≡ []
  none_below [] few = refl
  none_below (b ∷ bs) few = absurd (omega (arith, steps-at b, deepest-append (at_branch f b) (flat_map (at_branch f) bs)))

  -- the size of parts is that of the entries below a Start
  pub size_grows : (bs : List Branch) (n s : ℕ) →
      fold (λ size part. with_part size (part_size (λ t. size_of (f t)) part)) (record { nodes = n; steps = s }) bs ≡
      record { nodes = n + length (flat_map (at_branch f) bs); steps = max s (deepest (flat_map (at_branch f) bs)) }
  size_grows [] n s = same_size (omega arith) (omega arith)
  size_grows (b ∷ bs) n s =
      let part = part_size (λ t. size_of (f t)) b in
      size_grows bs (n + part.nodes) (max s (suc part.steps)) ∙
      same_size (omega (arith, nodes-at b, length-append (at_branch f b) (flat_map (at_branch f) bs)))
      (omega (arith, steps-at b, deepest-append (at_branch f b) (flat_map (at_branch f) bs)))

  -- the part of each branch is no deeper than the entries below the Start
  pub part_lower : (bs : List Branch) (n : ℕ) → deepest (flat_map (at_branch f) bs) ≤ n → OfParts (λ t. suc (deepest (f t)) ≤ n) bs
  part_lower [] n few = All-nil (λ b. b.tag ≡ false → suc (deepest (f b.type)) ≤ n)
  part_lower (b ∷ bs) n few =
      let all = deepest-append (at_branch f b) (flat_map (at_branch f) bs) in
      All-cons (λ b. b.tag ≡ false → suc (deepest (f b.type)) ≤ n) b bs
      (λ is. let here = steps-inside b is in omega arith)
      (part_lower bs n (omega arith))

-- the size of parts is the same by two functions that agree on them
pub same_sizes : (f g : ℕ → TypeSize) (bs : List Branch) → OfParts (λ t. f t ≡ g t) bs → size_of_parts f bs ≡ size_of_parts g bs
same_sizes f g bs same = go bs start_size same
  where
    one : (b : Branch) → (b.tag ≡ false → f b.type ≡ g b.type) → part_size f b ≡ part_size g b
    one b is = at b.tag refl is
      where
        at : (tag : Bool) → b.tag ≡ tag → (b.tag ≡ false → f b.type ≡ g b.type) → part_size f b ≡ part_size g b
        at true tagged is = rw tagged refl
        at false plain is = rw plain (is plain)

    go : (bs : List Branch) (size : TypeSize) → OfParts (λ t. f t ≡ g t) bs →
        fold (λ size part. with_part size (part_size f part)) size bs ≡ fold (λ size part. with_part size (part_size g part)) size bs
    go [] size same = refl
    go (b ∷ bs) size same =
        ap (λ s. fold (λ size part. with_part size (part_size f part)) (with_part size s) bs) (one b (All-head (λ b. b.tag ≡ false → f b.type ≡ g b.type) b bs same)) ∙
        go bs (with_part size (part_size g b)) (All-tail (λ b. b.tag ≡ false → f b.type ≡ g b.type) b bs same)
