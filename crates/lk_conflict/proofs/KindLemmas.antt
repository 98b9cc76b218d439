-- Kinds of items: when two are the same, and what sets of them have.
use Rattle.std.proofs.Common.{◌≡◌, ◌<◌, ◌+◌, ◌++◌, ◌⊎◌, ◌↔◌, ℕ, Bool, true, false, eqb, if◌then◌else◌, List, [], ◌∷◌, length, get_or, take, All, Contains, refl, sym, ap, ◌∙◌, subst, ⊎_elim, inl, inr}
use Rattle.std.proofs.Math.Bool.{beq}
use Rattle.std.specs.Cmp.{bool_eq_equiv, booleans_Decides}
use Rattle.std.specs.List.{list_any}
use Rattle.std.proofs.lemmas.Bool.{and_from, and_parts, eqb-true, eq-eqb}
use Rattle.std.proofs.lemmas.List.{get_or_default}
use Rattle.std.proofs.lemmas.List.Elements.{All-contains, All-contains_itself, All-weaker, Contains-append_left, Contains-push, Contains-push_cases}
use Rattle.indexmap.specs.IndexSet.{insert_key}
use Rattle.indexmap.proofs.CallerLemmas.{Contains-list_any}
use Rattle.lk_facts.specs.Facts.{FactTable}
use Rattle.lk_facts.specs.declared.program.Program.{Program}
use Rattle.lk_conflict.specs.Kinds.{HasKind, IsKindInRange, IsRacingKind, are_in_conflict, is_in_conflict, is_kind, kind_of}
use Rattle.lk_conflict.specs.declared.pairs.Kind.{Kind}
use Rattle.lk_rise.proofs.ListLemmas.{none_there, passes_there, some_passes, there_more}
use Rattle.lk_rise.specs.PointItems.{IsItemInRange}
use Rattle.lk_rise.specs.declared.point_items.ItemAt.{ItemAt}

-- the same kinds are equal
pub same_kind : (a b : Kind) → is_kind a b ≡ true → a ≡ b
same_kind a b same =
    let first = and_parts (eqb a.point b.point) _ same in
    let second = and_parts (beq a.child b.child) _ first.1 in
    let point = eqb-true a.point b.point first.0 in
    let child : a.child ≡ b.child = (booleans_Decides a.child b.child).0 second.0 in
    let writes : a.writes ≡ b.writes = (booleans_Decides a.writes b.writes).0 second.1 in
    (λ i. record { point = point i; child = child i; writes = writes i })

pub kind_itself : (a : Kind) → is_kind a a ≡ true
kind_itself a = and_from _ _ (eq-eqb a.point a.point refl) (and_from _ _ (bool_eq_equiv.refl a.child) (bool_eq_equiv.refl a.writes))

-- what a set finds is there
pub kind_there : (ks : List Kind) (k : Kind) → (list_any (is_kind k) ks ≡ true) ↔ Contains ks k
kind_there ks k = (
  λ found. Contains-list_any is_kind same_kind ks k found,
  λ there. passes_there (is_kind k) ks k there (kind_itself k),
)

-- a set into which a kind was put
pub kind_put : (ks : List Kind) (k x : Kind) → Contains (insert_key is_kind ks k) x ↔ (Contains ks x ⊎ (x ≡ k))
kind_put ks k x = by (list_any (is_kind k) ks) refl
  where
    by : (b : Bool) → list_any (is_kind k) ks ≡ b → Contains (if b then ks else ks ++ k ∷ []) x ↔ (Contains ks x ⊎ (x ≡ k))
    by true found = (
      λ there. inl there,
      λ either. ⊎_elim (λ there. there) (λ same. subst (λ y. Contains ks y) (sym same) ((kind_there ks k).0 found)) either,
    )
    by false none = (
      λ there. ⊎_elim (λ before. inl before) (λ same. inr (sym same)) (Contains-push_cases ks k x there),
      λ either. ⊎_elim (λ there. Contains-append_left ks (k ∷ []) x there) (λ same. subst (λ y. Contains (ks ++ k ∷ []) y) (sym same) (Contains-push ks k)) either,
    )

-- the kinds that are in conflict with one of some kinds, among the first of them
abbrev pub AreRacingAmong : (ℕ → ℕ → Bool) → List Kind → List Kind → List Kind → Type 0
AreRacingAmong after kinds first racing = (k : Kind) → Contains racing k ↔ (Contains first k × (is_in_conflict after kinds k ≡ true))

-- the kinds of items, one item more
pub has_kind_more : (program : Program) (items : List ItemAt) (n : ℕ) (item : ItemAt) (old new : List Kind) → n < length items → item ≡ get_or items n item → ((k : Kind) → Contains old k ↔ HasKind program (take n items) k) →
    ((k : Kind) → Contains new k ↔ (Contains old k ⊎ (k ≡ kind_of program item))) → (k : Kind) → Contains new k ↔ HasKind program (take (n + 1) items) k
has_kind_more program items n item old new within is before put k = (
  λ there.
      ⊎_elim
      (λ earlier. let found = (before k).0 earlier in (found.0, (there_more items n item found.0 within is).1 (inl found.1), found.2))
      (λ same. (item, (there_more items n item item within is).1 (inr refl), sym same))
      ((put k).0 there),
  λ found.
      (put k).1
      (⊎_elim
      (λ earlier. inl ((before k).1 (found.0, earlier, found.2)))
      (λ same. inr (sym found.2 ∙ ap (kind_of program) same))
      ((there_more items n item found.0 within is).0 found.1)),
)

-- none among no kinds
pub racing_none : (after : ℕ → ℕ → Bool) (kinds racing : List Kind) → racing ≡ [] → AreRacingAmong after kinds (take 0 kinds) racing
racing_none after kinds racing none k = (
  λ there. absurd (none_there k (subst (λ ks. Contains ks k) none there)),
  λ both. absurd (none_there k both.0),
)

-- those among one kind more
pub racing_more : (after : ℕ → ℕ → Bool) (kinds : List Kind) (n : ℕ) (kind : Kind) (old new : List Kind) → n < length kinds → kind ≡ get_or kinds n kind → AreRacingAmong after kinds (take n kinds) old →
    ((k : Kind) → Contains new k ↔ (Contains old k ⊎ ((k ≡ kind) × (is_in_conflict after kinds kind ≡ true)))) → AreRacingAmong after kinds (take (n + 1) kinds) new
racing_more after kinds n kind old new within is before put k = (
  λ there.
      ⊎_elim
      (λ earlier. let both = (before k).0 earlier in ((there_more kinds n kind k within is).1 (inl both.0), both.1))
      (λ now. ((there_more kinds n kind k within is).1 (inr now.0), subst (λ x. is_in_conflict after kinds x ≡ true) (sym now.0) now.1))
      ((put k).0 there),
  λ both.
      (put k).1
      (⊎_elim
      (λ earlier. inl ((before k).1 (earlier, both.1)))
      (λ same. inr (same, subst (λ x. is_in_conflict after kinds x ≡ true) same both.1))
      ((there_more kinds n kind k within is).0 both.0)),
)

-- those among one kind more, which is read from the list
pub racing_next : (after : ℕ → ℕ → Bool) (kinds others : List Kind) (n : ℕ) (d : Kind) (old new : List Kind) → n < length kinds → others ≡ kinds → AreRacingAmong after kinds (take n kinds) old →
    ((k : Kind) → Contains new k ↔ (Contains old k ⊎ ((k ≡ get_or kinds n d) × (is_in_conflict after others (get_or kinds n d) ≡ true)))) → AreRacingAmong after kinds (take (n + 1) kinds) new
racing_next after kinds others n d old new within same before put =
    racing_more after kinds n (get_or kinds n d) old new within (get_or_default kinds n d (get_or kinds n d) within) before
    (subst (λ (ks : List Kind). (k : Kind) → Contains new k ↔ (Contains old k ⊎ ((k ≡ get_or kinds n d) × (is_in_conflict after ks (get_or kinds n d) ≡ true)))) same put)

-- the kinds of items in range are in range
pub kinds_within : (facts : FactTable) (items : List ItemAt) (kinds : List Kind) → All (IsItemInRange facts) items → ((k : Kind) → Contains kinds k ↔ HasKind facts.program items k) → All (IsKindInRange facts.program) kinds
kinds_within facts items kinds ranged are =
    All-weaker (Contains kinds) (IsKindInRange facts.program)
    (λ k there.
    let found = (are k).0 there in
    record { point = subst (λ (x : Kind). x.point < length facts.program.points) found.2 (All-contains (IsItemInRange facts) items found.0 ranged found.1).point })
    kinds (All-contains_itself kinds)

-- those of the kinds of items
pub racing_of : (program : Program) (after : ℕ → ℕ → Bool) (items : List ItemAt) (kinds racing : List Kind) → ((k : Kind) → Contains kinds k ↔ HasKind program items k) → AreRacingAmong after kinds kinds racing →
    (k : Kind) → Contains racing k ↔ IsRacingKind program after items k
racing_of program after items kinds racing are race k = (
  λ there.
      let both = (race k).0 there in
      let found = some_passes (are_in_conflict after k) kinds both.1 in
      record { is = (are k).0 both.0; other = found.0; has = (are found.0).0 found.1; conflict = found.2 },
  λ is. (race k).1 ((are k).1 is.is, passes_there (are_in_conflict after k) kinds is.other ((are is.other).1 is.has) is.conflict),
)
