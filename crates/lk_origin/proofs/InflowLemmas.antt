-- What flows through one site: pairs that are listed row by row, and those of one label.
use Rattle.std.proofs.Common.{ℕ, ◌≡◌, ◌↔◌, ◌⊎◌, true, false, List, [], ◌∷◌, ◌++◌, Contains, refl, sym, ap, ◌∙◌, subst, inl, inr}
use Rattle.std.proofs.lemmas.Bool.{both_ways}
use Rattle.std.proofs.lemmas.List.Elements.{Contains-append_left, Contains-push, Contains-push_cases}
use Rattle.lk_match.specs.declared.passage.Passage.{Passage}
use Rattle.lk_origin.specs.Crossings.{LeadsInto}
use Rattle.lk_origin.specs.Inflows.{Enters, IsOutside, inflow_of}
use Rattle.lk_origin.specs.declared.inflow.Inflow.{Inflow}
use Rattle.lk_sets.specs.Adding.{Adds, IsGiven}
use Rattle.lk_sets.specs.Ids.{has_id}
use Rattle.lk_sets.specs.Rows.{Rows, has, row_of}
use Rattle.lk_sets.proofs.Members.{Contains-from_has_id, has_id-from_Contains}
use Rattle.lk_sets.proofs.Reading.{has_id-row, left_later, read_cases, read_here}

-- Where the loop stands that lists what flows along an entrance: what is left of the row behind it is still to be listed.
pub record Listing (levels : Rows) (e : Passage) (first now : List Inflow) (left : List ℕ) : Type 0 where
  pub inside : (b : ℕ) → has_id left b ≡ true → has levels e.to b ≡ true
  pub there : (x : Inflow) → Contains now x → Contains first x ⊎ Enters levels e x
  pub kept : (x : Inflow) → Contains first x → Contains now x
  pub done : (x : Inflow) → Enters levels e x → (has_id left x.inside ≡ true) ⊎ Contains now x

pub listing_none : (levels : Rows) (e : Passage) (first : List Inflow) (row : List ℕ) → row ≡ row_of levels e.to → Listing levels e first first row
listing_none levels e first row is = record {
  inside = λ b h. sym (has_id-row levels e.to b row is) ∙ h;
  there = λ x h. inl h;
  kept = λ x h. h;
  done = λ x enters. inl (has_id-row levels e.to x.inside row is ∙ enters.0);
}

pub listing_more : {levels : Rows} {e : Passage} {first mid now : List Inflow} {left rest : List ℕ} {b : ℕ} → left ≡ b ∷ rest → Listing levels e first mid left → now ≡ mid ++ inflow_of b e.from ∷ [] → Listing levels e first now rest
listing_more {levels} {e} {first} {mid} {now} {left} {rest} {b} step l is = record {
  inside = λ y h. l.inside y (left_later step y h);
  there = λ x h.
      elim (Contains-push_cases mid (inflow_of b e.from) x (subst (λ ys. Contains ys x) is h)) [
        | inl before ↦ l.there x before
        | inr here ↦ inr (subst (Enters levels e) here (l.inside b (read_here step), refl))
      ];
  kept = λ x h. subst (λ ys. Contains ys x) (sym is) (Contains-append_left mid (inflow_of b e.from ∷ []) x (l.kept x h));
  done = λ x enters.
      elim (l.done x enters) [
        | inl was_left ↦ elim (read_cases step x.inside was_left) [
          | inl same ↦
              let here : inflow_of b e.from ≡ x = ap (λ i. inflow_of i e.from) same ∙ ap (inflow_of x.inside) enters.1 in
              inr (subst (Contains now) here (subst (λ ys. Contains ys (inflow_of b e.from)) (sym is) (Contains-push mid (inflow_of b e.from))))
          | inr later ↦ inl later
        ]
        | inr listed ↦ inr (subst (λ ys. Contains ys x) (sym is) (Contains-append_left mid (inflow_of b e.from ∷ []) x listed))
      ];
}

pub listing_all : {levels : Rows} {e : Passage} {first now : List Inflow} {left : List ℕ} → left ≡ [] → Listing levels e first now left → Adds (Enters levels e) first now
listing_all empty l = record {
  members = λ x. (
    l.there x,
    λ h. elim h [
      | inl before ↦ l.kept x before
      | inr enters ↦ elim (l.done x enters) [ inl was_left ↦ absurd (both_ways false refl (sym (ap (λ ids. has_id ids x.inside) empty) ∙ was_left)) | inr listed ↦ listed ]
    ],
  );
}

-- the labels outside of the pairs of one label inside
pub outside_of_label : (all here : List Inflow) (label : ℕ) (list lent ids : List ℕ) → ((x : Inflow) → Contains here x ↔ (Contains all x × (x.inside ≡ label))) → ((m : ℕ) → Contains list m ↔ IsGiven IsOutside here m) → lent ≡ list → ((m : ℕ) → has_id ids m ≡ has_id lent m) → (m : ℕ) → (has_id ids m ≡ true) ↔ Contains all (inflow_of label m)
outside_of_label all here label list lent ids of are lends same m =
    let both : has_id ids m ≡ has_id list m = same m ∙ ap (λ ys. has_id ys m) lends in (
      λ h.
          let given = (are m).0 (Contains-from_has_id list m (sym both ∙ h)) in
          let x = given.0 in
          let parts = (of x).0 given.1 in
          subst (Contains all) (ap (λ i. inflow_of i x.outside) parts.1 ∙ ap (inflow_of label) given.2) parts.0,
      λ there. both ∙ has_id-from_Contains list m ((are m).1 (inflow_of label m, (of (inflow_of label m)).1 (there, refl), refl)),
    )

-- they are what leads to it
pub inflows_lead : (levels : Rows) (entrances : List Passage) (all lent : List Inflow) (ids : List ℕ) (label : ℕ) → ((x : Inflow) → Contains all x ↔ IsGiven (Enters levels) entrances x) → lent ≡ all → ((m : ℕ) → (has_id ids m ≡ true) ↔ Contains lent (inflow_of label m)) → (m : ℕ) → (has_id ids m ≡ true) ↔ IsGiven (LeadsInto levels label) entrances m
inflows_lead levels entrances all lent ids label each same are m = (
  λ h. (each (inflow_of label m)).0 (subst (λ ys. Contains ys (inflow_of label m)) same ((are m).0 h)),
  λ given. (are m).1 (subst (λ ys. Contains ys (inflow_of label m)) (sym same) ((each (inflow_of label m)).1 given)),
)
