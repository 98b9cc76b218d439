-- Labels that are found, and edges that are put between them.
use Rattle.std.proofs.Common.{◌≡◌, ◌↔◌, ℕ, zero, suc, ◌⊎◌, List, [], ◌∷◌, ◌++◌, Option, Some, None, Contains, inl, inr, sym, ap, ◌∙◌, subst}
use Rattle.std.specs.Prelude.{slice_get}
use Rattle.std.proofs.lemmas.List.Elements.{Contains-append_left, Contains-push, Contains-push_cases}
use Rattle.std.proofs.lemmas.Option.{none-some, same_Some}
use Rattle.lk_label.proofs.WalkSteps.{contains_got, got_contains}
use Rattle.lk_facts.specs.Paths.{edge_of}
use Rattle.lk_facts.specs.Places.{AreDifferent, IsPut}
use Rattle.lk_facts.specs.Places.IsPut.{there as was_there, added as added_last}
use Rattle.lk_facts.specs.declared.edge.Edge.{Edge}
use Rattle.lk_facts.specs.declared.edge.Mark.{Mark}
use Rattle.lk_facts.specs.declared.label_entry.LabelName.{LabelName}
use Rattle.lk_flow.specs.Finding.{Finds, FindsFrom}
use Rattle.lk_flow.specs.Growing.{Adds, IsPair, Joins}

got_early : {X : Type 0} (xs ys : List X) (i : ℕ) (x : X) → slice_get xs i ≡ Some x → slice_get (xs ++ ys) i ≡ Some x
got_early [] ys i x at = absurd (none-some x at)
got_early (y ∷ xs) ys zero x at = at
got_early (y ∷ xs) ys (suc i) x at = got_early xs ys i x at

-- what is put, in turn
pub adds_none : (P : Edge → Type 0) (es : List Edge) → ((e : Edge) → P e → ⊥) → Adds P es es
adds_none P es none = record { places = λ k e at. at; added = λ e is. absurd (none e is); only = λ e there. inl there }

pub adds_kept : (P : Edge → Type 0) (old new : List Edge) → Adds P old new → (e : Edge) → Contains old e → Contains new e
adds_kept P old new adds e there = contains_got new there.0 e (adds.places there.0 e (got_contains old e there))

pub adds_two : (P Q : Edge → Type 0) (a b c : List Edge) → Adds P a b → Adds Q b c → Adds (λ e. P e ⊎ Q e) a c
adds_two P Q a b c first second = record {
  places = λ k e at. second.places k e (first.places k e at);
  added = added;
  only = only;
}
  where
    added : (e : Edge) → P e ⊎ Q e → Contains c e
    added e (inl is) = adds_kept Q b c second e (first.added e is)
    added e (inr is) = second.added e is

    only : (e : Edge) → Contains c e → Contains a e ⊎ (P e ⊎ Q e)
    only e there = elim (second.only e there) [
      | inl was ↦ elim (first.only e was) [
        | inl early ↦ inl early
        | inr is ↦ inr (inl is)
      ]
      | inr is ↦ inr (inr is)
    ]

pub adds_as : (P Q : Edge → Type 0) (old new : List Edge) → ((e : Edge) → P e → Q e) → ((e : Edge) → Q e → P e) → Adds P old new → Adds Q old new
adds_as P Q old new to back adds = record {
  places = adds.places;
  added = λ e is. adds.added e (back e is);
  only = λ e there. elim (adds.only e there) [
    | inl was ↦ inl was
    | inr is ↦ inr (to e is)
  ];
}

module _ (names : List LabelName) where
  -- what belongs to the only label that is found
  pub through : (X : LabelName → Type 0) (S : LabelName → LabelName → Type 0) (from found : Option ℕ) → Finds names X from → FindsFrom names S from found → Finds names (λ u. (x : LabelName) × X x × S x u) found
  through X S None found none is = subst (Finds names (λ u. (x : LabelName) × X x × S x u)) (sym is) (λ u of. none of.0 of.1)
  through X S (Some l) None one next = λ u of. next one.name one.at u (subst (λ x. S x u) (one.only of.0 of.1) of.2)
  through X S (Some l) (Some k) one next =
      let found = next one.name one.at in
      record {
        name = found.name;
        at = found.at;
        is = (one.name, one.is, found.is);
        only = λ u of. found.only u (subst (λ x. S x u) (one.only of.0 of.1) of.2);
      }

  -- the same, said in other words
  pub finds_as : (X Y : LabelName → Type 0) (found : Option ℕ) → ((x : LabelName) → X x → Y x) → ((x : LabelName) → Y x → X x) → Finds names X found → Finds names Y found
  finds_as X Y None to back none = λ x is. none x (back x is)
  finds_as X Y (Some l) to back one = record { name = one.name; at = one.at; is = to one.name one.is; only = λ x is. one.only x (back x is) }

  found_end : (X : LabelName → Type 0) (found : Option ℕ) (l : ℕ) → Finds names X found → found ≡ Some l → (x : LabelName) × (slice_get names l ≡ Some x) × X x
  found_end X None l none is = absurd (none-some l is)
  found_end X (Some k) l one is = (one.name, subst (λ n. slice_get names n ≡ Some one.name) (same_Some k l is) one.at, one.is)

  is_found : AreDifferent names → (X : LabelName → Type 0) (found : Option ℕ) (l : ℕ) (x : LabelName) → Finds names X found → slice_get names l ≡ Some x → X x → found ≡ Some l
  is_found different X None l x none at is = absurd (none x is)
  is_found different X (Some k) l x one at is = ap Some (different k l x (one.at ∙ ap Some (sym (one.only x is))) at)

  -- the edge between two labels that are found joins what they are found for
  pub joined : AreDifferent names → (mark : Mark) (X Y : LabelName → Type 0) (from to : Option ℕ) (old new : List Edge) → Finds names X from → Finds names Y to → Adds (IsPair from to mark) old new → Adds (Joins names (λ u v m. (m ≡ mark) × X u × Y v)) old new
  joined different mark X Y from to old new at_from at_to adds = adds_as (IsPair from to mark) (Joins names (λ u v m. (m ≡ mark) × X u × Y v)) old new there back adds
    where
      there : (e : Edge) → IsPair from to mark e → Joins names (λ u v m. (m ≡ mark) × X u × Y v) e
      there e pair =
          let u = found_end X from e.from at_from pair.begins in
          let v = found_end Y to e.to at_to pair.ends in
          record { u = u.0; v = v.0; begins = u.1; ends = v.1; joined = (pair.passes, u.2, v.2) }

      back : (e : Edge) → Joins names (λ u v m. (m ≡ mark) × X u × Y v) e → IsPair from to mark e
      back e joins = record {
        begins = is_found different X from e.from joins.u at_from joins.begins joins.joined.1;
        ends = is_found different Y to e.to joins.v at_to joins.ends joins.joined.2;
        passes = joins.joined.0;
      }

  -- relations that are put, in turn
  pub joins_as : (R Q : LabelName → LabelName → Mark → Type 0) (old new : List Edge) → ((u v : LabelName) (m : Mark) → R u v m → Q u v m) → ((u v : LabelName) (m : Mark) → Q u v m → R u v m) → Adds (Joins names R) old new → Adds (Joins names Q) old new
  joins_as R Q old new to back adds =
      adds_as (Joins names R) (Joins names Q) old new
      (λ e is. record { u = is.u; v = is.v; begins = is.begins; ends = is.ends; joined = to is.u is.v e.mark is.joined })
      (λ e is. record { u = is.u; v = is.v; begins = is.begins; ends = is.ends; joined = back is.u is.v e.mark is.joined }) adds

  pub joins_none : (R : LabelName → LabelName → Mark → Type 0) (es : List Edge) → ((u v : LabelName) (m : Mark) → R u v m → ⊥) → Adds (Joins names R) es es
  joins_none R es none = adds_none (Joins names R) es (λ e is. none is.u is.v e.mark is.joined)

  pub joins_two : (R Q : LabelName → LabelName → Mark → Type 0) (a b c : List Edge) → Adds (Joins names R) a b → Adds (Joins names Q) b c → Adds (Joins names (λ u v m. R u v m ⊎ Q u v m)) a c
  joins_two R Q a b c first second = adds_as (λ e. Joins names R e ⊎ Joins names Q e) (Joins names (λ u v m. R u v m ⊎ Q u v m)) a c there back (adds_two (Joins names R) (Joins names Q) a b c first second)
    where
      there : (e : Edge) → Joins names R e ⊎ Joins names Q e → Joins names (λ u v m. R u v m ⊎ Q u v m) e
      there e (inl is) = record { u = is.u; v = is.v; begins = is.begins; ends = is.ends; joined = inl is.joined }
      there e (inr is) = record { u = is.u; v = is.v; begins = is.begins; ends = is.ends; joined = inr is.joined }

      back : (e : Edge) → Joins names (λ u v m. R u v m ⊎ Q u v m) e → Joins names R e ⊎ Joins names Q e
      back e is = elim is.joined [
        | inl one ↦ inl (record { u = is.u; v = is.v; begins = is.begins; ends = is.ends; joined = one })
        | inr other ↦ inr (record { u = is.u; v = is.v; begins = is.begins; ends = is.ends; joined = other })
      ]

-- what is put, where both ends are there and where one isn't
pub pair_put : (from to : ℕ) (mark : Mark) (old new : List Edge) (i : ℕ) → IsPut old new (edge_of from to mark) i → Adds (IsPair (Some from) (Some to) mark) old new
pair_put from to mark old new i put = record {
  places = kept put;
  added = λ e is. (put_cases put e).1 (inr (λ j. record { from = same_Some from e.from is.begins j; to = same_Some to e.to is.ends j; mark = sym is.passes j }));
  only = λ e there. elim ((put_cases put e).0 there) [
    | inl was ↦ inl was
    | inr same ↦ inr (record { begins = ap (λ (x : Edge). Some x.from) same; ends = ap (λ (x : Edge). Some x.to) same; passes = sym (ap (λ (x : Edge). x.mark) same) })
  ];
}
  where
    kept : {e : Edge} {k : ℕ} → IsPut old new e k → (j : ℕ) (x : Edge) → slice_get old j ≡ Some x → slice_get new j ≡ Some x
    kept (was_there at same) j x here = subst (λ xs. slice_get xs j ≡ Some x) (sym same) here
    kept {e = e} (added_last out is) j x here = subst (λ xs. slice_get xs j ≡ Some x) (sym is) (got_early old (e ∷ []) j x here)

    put_cases : {e : Edge} {k : ℕ} → IsPut old new e k → (x : Edge) → Contains new x ↔ (Contains old x ⊎ (e ≡ x))
    put_cases {e = e} {k = k} (was_there at same) x = (
      λ there. inl (subst (λ xs. Contains xs x) same there),
      λ either. elim either [
        | inl before ↦ subst (λ xs. Contains xs x) (sym same) before
        | inr is ↦ subst (λ xs. Contains xs x) (sym same) (subst (Contains old) is (contains_got old k e at))
      ],
    )
    put_cases {e = e} (added_last out is) x = (
      λ there. Contains-push_cases old e x (subst (λ xs. Contains xs x) is there),
      λ either. subst (λ xs. Contains xs x) (sym is) (elim either [
        | inl before ↦ Contains-append_left old (e ∷ []) x before
        | inr same ↦ subst (Contains (old ++ e ∷ [])) same (Contains-push old e)
      ]),
    )
