-- The last place of a name in a list, and what a table keeps of it.
use Rattle.std.proofs.Common.{◌≡◌, ◌∙◌, ◌⊎◌, inl, inr, ℕ, zero, suc, ◌<◌, ◌≤◌, Bool, true, false, cond, if◌then◌else◌, Option, Some, None, List, [], ◌∷◌, ◌++◌, map, length, take, drop, get_or, refl, sym, ap, subst, arith}
use Rattle.std.specs.List.{slice_get}
use Rattle.std.specs.Map.{lookup}
use Rattle.std.specs.Option.{option_map, option_and_then, IsSome}
use Rattle.std.proofs.Math.Seq.{take-append_seam}
use Rattle.std.proofs.lemmas.List.{take-append-le, length-map, map-append}
use Rattle.std.proofs.lemmas.Option.{same_Some, slice_get-get_or, slice_get_within, slice_get-map, slice_get_read}
use Rattle.std.proofs.lemmas.Slice.Eq.{bytes_eq-Decides}
use Rattle.lk_scopes.specs.Latest.{Name, is_name, or_else, latest}
use Rattle.lk_scopes.specs.Places.{last_place, AreLatest}

same_name : (a b : Name) → is_name a b ≡ true → a ≡ b
same_name a b e = (bytes_eq-Decides a b).0 e

pub name_itself : (a : Name) → is_name a a ≡ true
name_itself a = (bytes_eq-Decides a a).1 refl

-- ---- elements behind which one more stands

got_early : {X : Type 0} (xs ys : List X) (i : ℕ) (x : X) → slice_get xs i ≡ Some x → slice_get (xs ++ ys) i ≡ Some x
got_early [] ys i x e = absurd cc
got_early (y ∷ xs) ys zero x e = e
got_early (y ∷ xs) ys (suc i) x e = got_early xs ys i x e

last_got : {X : Type 0} (xs : List X) (x : X) → slice_get (xs ++ x ∷ []) (length xs) ≡ Some x
last_got [] x = refl
last_got (y ∷ xs) x = last_got xs x

last_or_early : {X : Type 0} (xs : List X) (y : X) (i : ℕ) (x : X) → slice_get (xs ++ y ∷ []) i ≡ Some x → (slice_get xs i ≡ Some x) ⊎ ((i ≡ length xs) × (y ≡ x))
last_or_early [] y zero x e = inr (refl, same_Some y x e)
last_or_early [] y (suc i) x e = absurd cc
last_or_early (z ∷ xs) y zero x e = inl e
last_or_early (z ∷ xs) y (suc i) x e = elim (last_or_early xs y i x e) [
  | inl early ↦ inl early
  | inr last ↦ inr (ap suc last.0, last.1)
]

-- ---- places

-- one more name hides those before it
pub last_pushed : (ns : List Name) (n q : Name) → last_place (ns ++ n ∷ []) q ≡ (if is_name n q then Some (length ns) else last_place ns q)
last_pushed [] n q = refl
last_pushed (m ∷ ns) n q = rw (last_pushed ns n q) (by (is_name n q))
  where
    by : (b : Bool) → or_else (option_map suc (if b then Some (length ns) else last_place ns q)) (if is_name m q then Some 0 else None)
        ≡ (if b then Some (suc (length ns)) else or_else (option_map suc (last_place ns q)) (if is_name m q then Some 0 else None))
    by true = refl
    by false = refl

pub place_within : (ns : List Name) (q : Name) (p : ℕ) → last_place ns q ≡ Some p → p < length ns
place_within [] q p e = absurd cc
place_within (n ∷ ns) q p e = by (last_place ns q) (λ k is. place_within ns q k is) (is_name n q) e
  where
    by : (o : Option ℕ) → ((k : ℕ) → o ≡ Some k → k < length ns) → (b : Bool) → or_else (option_map suc o) (if b then Some 0 else None) ≡ Some p → p < suc (length ns)
    by (Some k) within b e = let h = within k refl in let same : suc k ≡ p = same_Some (suc k) p e in omega arith
    by None within true e = let same : 0 ≡ p = same_Some 0 p e in omega arith
    by None within false e = absurd cc

-- the last one that has a name is the one at the last place of that name
pub latest_placed : {A : Type 0} (f : A → Name) (ds : List A) (q : Name) → latest (λ d. is_name (f d) q) ds ≡ option_and_then (slice_get ds) (last_place (map f ds) q)
latest_placed f [] q = refl
latest_placed f (d ∷ ds) q = rw (latest_placed f ds q) (by (last_place (map f ds) q) refl (is_name (f d) q))
  where
    by : (o : Option ℕ) → last_place (map f ds) q ≡ o → (b : Bool) → or_else (option_and_then (slice_get ds) o) (if b then Some d else None)
        ≡ option_and_then (slice_get (d ∷ ds)) (or_else (option_map suc o) (if b then Some 0 else None))
    by (Some p) is b =
        let within : p < length ds = omega (arith, place_within (map f ds) q p is, length-map ds f) in
        rw (slice_get-get_or ds p d within) refl
    by None is true = refl
    by None is false = refl

-- a place, unless it is before a base
abbrev not_before : ℕ → Option ℕ → Option ℕ
not_before zero o = o
not_before (suc base) None = None
not_before (suc base) (Some zero) = None
not_before (suc base) (Some (suc place)) = option_map suc (not_before base (Some place))

none_before : (base : ℕ) → not_before base None ≡ None
none_before zero = refl
none_before (suc base) = refl

pub place_behind : (base place : ℕ) → base ≤ place → not_before base (Some place) ≡ Some place
place_behind zero place h = refl
place_behind (suc base) zero h = absurd (omega arith)
place_behind (suc base) (suc place) h = ap (option_map suc) (place_behind base place (omega arith))

pub place_before : (base place : ℕ) → place < base → not_before base (Some place) ≡ None
place_before zero place h = absurd (omega arith)
place_before (suc base) zero h = refl
place_before (suc base) (suc place) h = ap (option_map suc) (place_before base place (omega arith))

-- the same of those from a base on
latest_from : {A : Type 0} (f : A → Name) (base : ℕ) (ds : List A) (q : Name) → latest (λ d. is_name (f d) q) (drop base ds) ≡ option_and_then (slice_get ds) (not_before base (last_place (map f ds) q))
latest_from f zero ds q = latest_placed f ds q
latest_from f (suc base) [] q = refl
latest_from f (suc base) (d ∷ ds) q = latest_from f base ds q ∙ by (last_place (map f ds) q) (is_name (f d) q)
  where
    inner : (o : Option ℕ) → option_and_then (slice_get ds) o ≡ option_and_then (slice_get (d ∷ ds)) (option_map suc o)
    inner (Some p) = refl
    inner None = refl

    by : (o : Option ℕ) (b : Bool) → option_and_then (slice_get ds) (not_before base o) ≡ option_and_then (slice_get (d ∷ ds)) (not_before (suc base) (or_else (option_map suc o) (if b then Some 0 else None)))
    by (Some p) b = inner (not_before base (Some p))
    by None true = rw none_before refl
    by None false = rw none_before refl

module _ {A : Type 0} (f : A → Name) (ds : List A) (q : Name) where
  pub no_latest : last_place (map f ds) q ≡ None → latest (λ d. is_name (f d) q) ds ≡ None
  no_latest is = latest_placed f ds q ∙ ap (option_and_then (slice_get ds)) is

  pub latest_at : (place : ℕ) → last_place (map f ds) q ≡ Some place → latest (λ d. is_name (f d) q) ds ≡ slice_get ds place
  latest_at place is = latest_placed f ds q ∙ ap (option_and_then (slice_get ds)) is

  pub place_in : (place : ℕ) → last_place (map f ds) q ≡ Some place → place < length ds
  place_in place is = omega (arith, place_within (map f ds) q place is, length-map ds f)

  pub no_latest_behind : (base : ℕ) → last_place (map f ds) q ≡ None → latest (λ d. is_name (f d) q) (drop base ds) ≡ None
  no_latest_behind base is = latest_from f base ds q ∙ ap (λ o. option_and_then (slice_get ds) (not_before base o)) is ∙ ap (option_and_then (slice_get ds)) (none_before base)

  pub latest_before : (base place : ℕ) → last_place (map f ds) q ≡ Some place → place < base → latest (λ d. is_name (f d) q) (drop base ds) ≡ None
  latest_before base place is h = latest_from f base ds q ∙ ap (λ o. option_and_then (slice_get ds) (not_before base o)) is ∙ ap (option_and_then (slice_get ds)) (place_before base place h)

  pub latest_behind : (base place : ℕ) → last_place (map f ds) q ≡ Some place → base ≤ place → latest (λ d. is_name (f d) q) (drop base ds) ≡ slice_get ds place
  latest_behind base place is h = latest_from f base ds q ∙ ap (λ o. option_and_then (slice_get ds) (not_before base o)) is ∙ ap (option_and_then (slice_get ds)) (place_behind base place h)

-- ---- what is kept of entries, each of which has an item with a name

module _ {A E : Type 0} (f : A → Name) (item : E → A) (entries : List E) (q : Name) (place : ℕ) where
  pub entry_in : last_place (map f (map item entries)) q ≡ Some place → place < length entries
  entry_in is = omega (arith, place_in f (map item entries) q place is, length-map entries item)

  item_at : (x : E) → last_place (map f (map item entries)) q ≡ Some place → x ≡ get_or entries place x → Some (item x) ≡ slice_get (map item entries) place
  item_at x is at = sym (slice_get-map item entries place ∙ ap (option_map item) (slice_get_read entries (length entries) place x refl (entry_in is) at))

  pub found_item : (x : E) → last_place (map f (map item entries)) q ≡ Some place → x ≡ get_or entries place x → Some (item x) ≡ latest (λ d. is_name (f d) q) (map item entries)
  found_item x is at = item_at x is at ∙ sym (latest_at f (map item entries) q place is)

  pub found_behind : (base : ℕ) (x : E) → last_place (map f (map item entries)) q ≡ Some place → base ≤ place → x ≡ get_or entries place x →
      Some (item x) ≡ latest (λ d. is_name (f d) q) (drop base (map item entries))
  found_behind base x is h at = item_at x is at ∙ sym (latest_behind f (map item entries) q base place is h)

-- ---- what a table keeps

-- a name comes: the table has its place, and it hides what the table had
pub latest_pushed : (names : List Name) (hides : List (Option ℕ)) (table new : List (Name × ℕ)) (n : Name) → AreLatest names hides table → length hides ≡ length names →
    ((q : Name) → lookup (is_name q) new ≡ cond (is_name n q) (Some (length names)) (lookup (is_name q) table)) →
    AreLatest (names ++ n ∷ []) (hides ++ lookup (is_name n) table ∷ []) new
latest_pushed names hides table new n old lengths known = record {
  found = λ q. known q ∙ ap (λ o. cond (is_name n q) (Some (length names)) o) (old.found q) ∙ sym (last_pushed names n q);
  hidden = λ place name before named hiding. elim (last_or_early names n place name named) [
    | inl early ↦ elim (last_or_early hides (lookup (is_name n) table) place before hiding) [
      | inl early_hiding ↦
          old.hidden place name before early early_hiding ∙
          ap (λ ns. last_place ns name) (sym (take-append-le place names (n ∷ []) (omega (arith, slice_get_within names place name early))))
      | inr last ↦ absurd (omega (arith, slice_get_within names place name early, last.0))
    ]
    | inr last ↦ elim (last_or_early hides (lookup (is_name n) table) place before hiding) [
      | inl early_hiding ↦ absurd (omega (arith, slice_get_within hides place before early_hiding, last.0))
      | inr last_hiding ↦
          sym last_hiding.1 ∙ old.found n ∙
          subst (λ m. last_place names n ≡ last_place (take place (names ++ n ∷ [])) m) last.1
          (ap (λ ns. last_place ns n) (sym (ap (λ p. take p (names ++ n ∷ [])) last.0 ∙ take-append_seam names (n ∷ []))))
    ]
  ];
}

-- the last name goes: what it hid is at the place that the table has
pub latest_popped : (names : List Name) (hides : List (Option ℕ)) (table new : List (Name × ℕ)) (n : Name) (before : Option ℕ) →
    AreLatest (names ++ n ∷ []) (hides ++ before ∷ []) table → length hides ≡ length names →
    ((q : Name) → lookup (is_name q) new ≡ cond (is_name n q) before (lookup (is_name q) table)) → AreLatest names hides new
latest_popped names hides table new n before old lengths known = record {
  found = λ q. known q ∙ by q (is_name n q) refl;
  hidden = λ place name hid named hiding.
      old.hidden place name hid (got_early names (n ∷ []) place name named) (got_early hides (before ∷ []) place hid hiding) ∙
      ap (λ ns. last_place ns name) (take-append-le place names (n ∷ []) (omega (arith, slice_get_within names place name named)));
}
  where
    hid_is : before ≡ last_place names n
    hid_is =
        old.hidden (length names) n before (last_got names n) (subst (λ k. slice_get (hides ++ before ∷ []) k ≡ Some before) lengths (last_got hides before)) ∙
        ap (λ ns. last_place ns n) (take-append_seam names (n ∷ []))

    by : (q : Name) (b : Bool) → is_name n q ≡ b → cond b before (lookup (is_name q) table) ≡ last_place names q
    by q true is = hid_is ∙ ap (last_place names) (same_name n q is)
    by q false is = old.found q ∙ last_pushed names n q ∙ ap (λ b. if b then Some (length names) else last_place names q) is

-- the last name is in the table
pub last_in_table : (names : List Name) (hides : List (Option ℕ)) (table : List (Name × ℕ)) (n : Name) → AreLatest (names ++ n ∷ []) hides table → lookup (is_name n) table ≡ Some (length names)
last_in_table names hides table n old = old.found n ∙ last_pushed names n n ∙ ap (λ b. if b then Some (length names) else last_place names n) (name_itself n)

-- ---- the same of entries, each with what it hides

module _ {A E : Type 0} (f : A → Name) (item : E → A) (hides : E → Option ℕ) (old later : List E) (e : E) (table new : List (Name × ℕ)) (n : Name) where
  pub entries_pushed : (place : ℕ) → later ≡ old ++ e ∷ [] → AreLatest (map f (map item old)) (map hides old) table → n ≡ f (item e) → place ≡ length old → hides e ≡ lookup (is_name n) table →
      ((q : Name) → lookup (is_name q) new ≡ cond (is_name n q) (Some place) (lookup (is_name q) table)) → AreLatest (map f (map item later)) (map hides later) new
  entries_pushed place is kept named at hidden known =
      let lengths : length (map hides old) ≡ length (map f (map item old)) = omega (arith, length-map old hides, length-map (map item old) f, length-map old item) in
      let places : place ≡ length (map f (map item old)) = omega (arith, length-map (map item old) f, length-map old item) in
      let all = latest_pushed (map f (map item old)) (map hides old) table new n kept lengths (λ q. known q ∙ ap (λ k. cond (is_name n q) (Some k) (lookup (is_name q) table)) places) in
      rw (is, map-append item, map-append f, map-append hides, hidden, ← named) all

  pub entries_popped : old ≡ later ++ e ∷ [] → AreLatest (map f (map item old)) (map hides old) table → n ≡ f (item e) →
      ((q : Name) → lookup (is_name q) new ≡ cond (is_name n q) (hides e) (lookup (is_name q) table)) → AreLatest (map f (map item later)) (map hides later) new
  entries_popped is kept named known =
      let lengths : length (map hides later) ≡ length (map f (map item later)) = omega (arith, length-map later hides, length-map (map item later) f, length-map later item) in
      latest_popped (map f (map item later)) (map hides later) table new n (hides e) (rw (is, map-append item, map-append f, map-append hides, ← named) at kept) lengths known

  pub entry_in_table : old ≡ later ++ e ∷ [] → AreLatest (map f (map item old)) (map hides old) table → n ≡ f (item e) → IsSome (lookup (is_name n) table)
  entry_in_table is kept named =
      subst IsSome (sym (last_in_table (map f (map item later)) (map hides (later ++ e ∷ [])) table n (rw (is, map-append item, map-append f, ← named) at kept))) refl
