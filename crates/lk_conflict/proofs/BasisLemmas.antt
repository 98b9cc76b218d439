-- What racing items begin with.
use Rattle.std.proofs.lemmas.Bool.{and_parts, both_ways, or_cases}
use Rattle.lk_facts.specs.Program.{writes_at}
use Rattle.std.proofs.Common.{◌≡◌, ◌<◌, ◌++◌, ◌&&◌, ◌||◌, ◌⊎◌, ◌↔◌, ℕ, true, false, List, [], ◌∷◌, Contains, refl, sym, subst, ⊎_elim, inl, inr}
use Rattle.std.proofs.lemmas.List.Elements.{Contains-append_left, Contains-push, Contains-push_cases}
use Rattle.lk_facts.specs.Facts.{FactTable, basis_of}
use Rattle.lk_facts.specs.Racing.{Setting}
use Rattle.lk_conflict.specs.Bases.{MayBeAt, IsInConflict, IsBasis, Adds}
use Rattle.lk_conflict.specs.Kinds.{IsRacingKind, are_in_conflict, kind_of, may_meet}
use Rattle.lk_conflict.specs.Listing.{at_location}
use Rattle.lk_rise.proofs.ListLemmas.{in_filter}
use Rattle.lk_rise.specs.PointItems.{IsItemOf}
use Rattle.lk_rise.specs.declared.point_items.ItemAt.{ItemAt}
use Rattle.lk_rise.specs.declared.correlations.Correlation.{Correlation}
use Rattle.lk_sets.specs.Rows.{has}

module _ (facts : FactTable) (setting : Setting) where
  -- nothing comes where nothing has the property
  pub adds_none : (Q : ℕ → ℕ → ItemAt → Type 0) (old : List (Correlation × List ℕ)) → ((f o : ℕ) (i : ItemAt) → Q f o i → ⊥) → Adds facts setting Q old old
  adds_none Q old none = record {
    kept = λ b there. there;
    sound = λ b there. inl there;
    complete = λ f o i holds. absurd (none f o i holds);
  }

  -- the same property in other words
  pub adds_as : (Q R : ℕ → ℕ → ItemAt → Type 0) (old new : List (Correlation × List ℕ)) → Adds facts setting Q old new →
      ((f o : ℕ) (i : ItemAt) → Q f o i → R f o i) → ((f o : ℕ) (i : ItemAt) → R f o i → Q f o i) → Adds facts setting R old new
  adds_as Q R old new adds to from = record {
    kept = adds.kept;
    sound = λ b there. ⊎_elim (λ before. inl before) (λ found. inr (found.0, found.1, found.2, to found.0 found.1 found.2 found.3, found.4)) (adds.sound b there);
    complete = λ f o i holds. adds.complete f o i (from f o i holds);
  }

  -- the bases of items with one property, then those with another
  pub adds_more : (Q R S : ℕ → ℕ → ItemAt → Type 0) (old mid new : List (Correlation × List ℕ)) → Adds facts setting Q old mid → Adds facts setting R mid new →
      ((f o : ℕ) (i : ItemAt) → S f o i → Q f o i ⊎ R f o i) → ((f o : ℕ) (i : ItemAt) → Q f o i → S f o i) → ((f o : ℕ) (i : ItemAt) → R f o i → S f o i) → Adds facts setting S old new
  adds_more Q R S old mid new first second either from_first from_second = record {
    kept = λ b there. second.kept b (first.kept b there);
    sound = λ b there.
        elim (second.sound b there) [
          | inl before ↦ ⊎_elim (λ old. inl old) (λ found. inr (found.0, found.1, found.2, from_first found.0 found.1 found.2 found.3, found.4)) (first.sound b before)
          | inr found ↦ inr (found.0, found.1, found.2, from_second found.0 found.1 found.2 found.3, found.4)
        ];
    complete = λ f o i holds.
        elim (either f o i holds) [
          | inl one ↦ let found = first.complete f o i one in (found.0, second.kept found.0 found.1, found.2)
          | inr other ↦ second.complete f o i other
        ];
  }

  -- the basis of one item
  pub adds_one : (f o : ℕ) (i : ItemAt) (b : Correlation × List ℕ) (old new : List (Correlation × List ℕ)) → IsBasis facts setting f o i b → new ≡ old ++ b ∷ [] →
      Adds facts setting (λ g q j. (g ≡ f) × (q ≡ o) × (j ≡ i)) old new
  adds_one f o i b old new is pushed = record {
    kept = λ c there. subst (λ xs. Contains xs c) (sym pushed) (Contains-append_left old (b ∷ []) c there);
    sound = λ c there.
        elim (Contains-push_cases old b c (subst (λ xs. Contains xs c) pushed there)) [
          | inl before ↦ inl before
          | inr same ↦ inr (f, o, i, (refl, refl, refl), subst (IsBasis facts setting f o i) same is)
        ];
    complete = λ g q j holds. (
      b,
      subst (λ xs. Contains xs b) (sym pushed) (Contains-push old b),
      subst (λ h. IsBasis facts setting h q j b) (sym holds.0)
          (subst (λ r. IsBasis facts setting f r j b) (sym holds.1)
          (subst (λ k. IsBasis facts setting f o k b) (sym holds.2) is)),
    );
  }

-- the items of a function that may be at a location, and are in conflict there
module _ (facts : FactTable) (setting : Setting) (f o : ℕ) (list here : List ItemAt) (location : o < facts.program.locations)
    (all : (i : ItemAt) → Contains list i ↔ IsItemOf (basis_of facts) setting.has f i) (is : here ≡ at_location facts.origins o list) where
  pub may_be : (i : ItemAt) → Contains here i ↔ MayBeAt facts setting f o i
  may_be i =
      let passes = in_filter (λ (j : ItemAt). has facts.origins.all j.subject o) list i in (
        λ there. let both = passes.0 (subst (λ xs. Contains xs i) is there) in record { item = (all i).0 both.0; may = both.1 },
        λ may. subst (λ xs. Contains xs i) (sym is) (passes.1 ((all i).1 may.item, may.may)),
      )

  pub in_conflict : (i : ItemAt) → (Contains here i × IsRacingKind facts.program setting.after here (kind_of facts.program i)) ↔ IsInConflict facts setting f o i
  in_conflict i = (
    λ both.
        let is = both.1 in
        record {
          location = location;
          here = (may_be i).0 both.0;
          other = is.has.0;
          there = (may_be is.has.0).0 is.has.1;
          conflict = subst (λ k. are_in_conflict setting.after (kind_of facts.program i) k ≡ true) (sym is.has.2) is.conflict;
        },
    λ conflict. (
      (may_be i).1 conflict.here,
      record { is = (i, (may_be i).1 conflict.here, refl); other = kind_of facts.program conflict.other; has = (conflict.other, (may_be conflict.other).1 conflict.there, refl); conflict = conflict.conflict },
    ),
  )

-- a function none of whose items is a child's has no conflict
pub none_meet : (facts : FactTable) (setting : Setting) (f o : ℕ) (i : ItemAt) → ((i : ItemAt) → IsItemOf (basis_of facts) setting.has f i → i.child ≡ false) → IsInConflict facts setting f o i → ⊥
none_meet facts setting f o i none is =
    let children : (j : ItemAt) → IsItemOf (basis_of facts) setting.has f j → j.child ≡ true → ⊥ = λ j of child. both_ways j.child (none j of) child in
    let a = kind_of facts.program i in
    let b = kind_of facts.program is.other in
    elim (or_cases (may_meet setting.after a b) (may_meet setting.after b a) is.conflict) [
      | inl meets ↦ children i is.here.item (and_parts i.child (setting.after i.point is.other.point && (writes_at facts.program i.access || writes_at facts.program is.other.access)) meets).0
      | inr meets ↦ children is.other is.there.item (and_parts is.other.child (setting.after is.other.point i.point && (writes_at facts.program is.other.access || writes_at facts.program i.access)) meets).0
    ]
