-- The places of a list by what stands there.
use Rattle.std.proofs.Common.{◌≡◌, ◌≢◌, ◌<◌, ◌+◌, ◌++◌, ◌∷◌, ℕ, List, [], map, length, get_or, set, Contains, Some, Vec, Global, refl, sym, ap, ◌∙◌, subst, inl, inr, arith, get_or-set_same, get_or-set_other}
use Rattle.std.specs.List.{slice_get}
use Rattle.std.proofs.lemmas.Bool.{cases_eq, cases_lt}
use Rattle.std.proofs.lemmas.List.{map-append, map-set, length-append, length-map, get_or-map, get_or_past}
use Rattle.std.proofs.lemmas.List.Elements.{Contains-append_left, Contains-push, Contains-push_cases}
use Rattle.std.proofs.lemmas.Option.{same_Some, slice_get_within, slice_get_read}
use Rattle.std.proofs.Math.ListN.{get_or-append}
use Rattle.std.proofs.lemmas.List.{get_or_push}
use Rattle.lk_rise.specs.Groups.{lists_of, group_at, AreGroups, AreGroupsBelow}
use Rattle.lk_rise.proofs.ListLemmas.{none_there}

-- one empty list more
pub empty_more : (lists : List (Vec ℕ Global)) (v : Vec ℕ Global) → v.items ≡ [] → ((key : ℕ) → group_at (lists_of lists) key ≡ []) → (key : ℕ) → group_at (lists_of (lists ++ v ∷ [])) key ≡ []
empty_more lists v none before key =
    let items = λ (x : Vec ℕ Global). x.items in
    let more : lists_of (lists ++ v ∷ []) ≡ lists_of lists ++ v.items ∷ [] = map-append items lists (v ∷ []) in
    ap (λ (xs : List (List ℕ)). get_or xs key []) more
    ∙ elim (cases_lt key (length (lists_of lists))) [
      | inl within ↦ get_or-append (lists_of lists) (v.items ∷ []) [] key within ∙ before key
      | inr past ↦
          elim (cases_eq key (length (lists_of lists))) [
            | inl same ↦ get_or_push (lists_of lists) v.items [] key (sym same) ∙ none
            | inr other ↦ get_or_past (lists_of lists ++ v.items ∷ []) key [] (omega (arith, past, other, length-append (lists_of lists) (v.items ∷ [])))
          ]
    ]

-- a list that was made longer, and the others
module _ (lists : List (Vec ℕ Global)) (key : ℕ) (v : Vec ℕ Global) where
  pub group_here : key < length lists → group_at (lists_of (set lists key v)) key ≡ v.items
  group_here low =
      let items = λ (x : Vec ℕ Global). x.items in
      ap (λ (xs : List (List ℕ)). get_or xs key []) (map-set items lists key v)
      ∙ get_or-set_same (map items lists) key v.items [] (omega (arith, length-map lists items))

  pub group_other : (k : ℕ) → k ≢ key → group_at (lists_of (set lists key v)) k ≡ group_at (lists_of lists) k
  group_other k other =
      let items = λ (x : Vec ℕ Global). x.items in
      ap (λ (xs : List (List ℕ)). get_or xs k []) (map-set items lists key v) ∙ get_or-set_other (map items lists) key k v.items [] other

  pub group_read : key < length lists → v ≡ get_or lists key v → v.items ≡ group_at (lists_of lists) key
  group_read low is =
      let items = λ (x : Vec ℕ Global). x.items in
      ap items is ∙ sym (get_or-map items lists key v [] low)

-- one place more
pub groups_more : (keys : List ℕ) (n key : ℕ) (old new : List (List ℕ)) → n < length keys → key ≡ get_or keys n key → AreGroupsBelow keys n old →
    group_at new key ≡ group_at old key ++ n ∷ [] → ((k : ℕ) → k ≢ key → group_at new k ≡ group_at old k) → AreGroupsBelow keys (n + 1) new
groups_more keys n key old new within is before here others k place =
    let at : slice_get keys n ≡ Some key = slice_get_read keys _ n key refl within is in
    elim (cases_eq k key) [
      | inl same ↦ (
        λ there.
            elim (Contains-push_cases (group_at old key) n place (subst (λ xs. Contains xs place) (ap (group_at new) same ∙ here) there)) [
              | inl earlier ↦ let found = (before key place).0 earlier in (omega (arith, found.0), found.1 ∙ ap (λ z. Some z) (sym same))
              | inr now ↦ (omega (arith, now), subst (λ p. slice_get keys p ≡ Some k) now (at ∙ ap (λ z. Some z) (sym same)))
            ],
        λ found.
            subst (λ xs. Contains xs place) (sym (ap (group_at new) same ∙ here))
            (elim (cases_eq place n) [
              | inl now ↦ subst (λ p. Contains (group_at old key ++ n ∷ []) p) (sym now) (Contains-push (group_at old key) n)
              | inr other ↦ Contains-append_left (group_at old key) (n ∷ []) place ((before key place).1 (omega (arith, found.0, other), found.1 ∙ ap (λ z. Some z) same))
            ]),
      )
      | inr other ↦ (
        λ there. let found = (before k place).0 (subst (λ xs. Contains xs place) (others k other) there) in (omega (arith, found.0), found.1),
        λ found.
            subst (λ xs. Contains xs place) (sym (others k other))
            (elim (cases_eq place n) [
              | inl now ↦ absurd (other (same_Some k key (sym found.1 ∙ subst (λ p. slice_get keys p ≡ Some key) (sym now) at)))
              | inr earlier ↦ (before k place).1 (omega (arith, found.0, earlier), found.1)
            ]),
      )
    ]

pub groups_none : (keys : List ℕ) (groups : List (List ℕ)) → ((key : ℕ) → group_at groups key ≡ []) → AreGroupsBelow keys 0 groups
groups_none keys groups none key place = (
  λ there. absurd (none_there place (subst (λ xs. Contains xs place) (none key) there)),
  λ found. absurd (omega (arith, found.0)),
)

pub groups_all : (keys : List ℕ) (n : ℕ) (groups : List (List ℕ)) → n ≡ length keys → AreGroupsBelow keys n groups → AreGroups keys groups
groups_all keys n groups end before = record {
  each = λ key place. (
    λ there. ((before key place).0 there).1,
    λ at. (before key place).1 (subst (λ m. place < m) (sym end) (slice_get_within keys place key at), at),
  );
}
