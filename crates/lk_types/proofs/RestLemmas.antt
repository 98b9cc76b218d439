-- What is kept stays true while the types of a table stay as they are.
use Rattle.std.proofs.Common.{◌≡◌, ◌∙◌, ◌≤◌, ◌<◌, ◌⊎◌, inl, inr, ℕ, zero, suc, false, List, [], ◌∷◌, ◌++◌, length, map, refl, sym, ap, subst, arith, Option, Some, None, length-append}
use Rattle.std.specs.List.{slice_get}
use Rattle.std.specs.Option.{option_map}
use Rattle.std.specs.Prelude.{unwrap_or}
use Rattle.std.proofs.lemmas.List.{length-map}
use Rattle.std.proofs.lemmas.List.Elements.{All-nil}
use Rattle.std.proofs.lemmas.Bool.{false≢true}
use Rattle.std.proofs.lemmas.Option.{none-some, same_Some, slice_get-map, slice_get_within}
use Rattle.lk_types.specs.Building.{IsTable, IsType, IsLonger, IsClosed, IsPartOfObjects, IsMadeOf, ArePartsOf, types_of}
use Rattle.lk_types.specs.Kept.{table_of, AreKept, kept_size, size_by, IsSized}
use Rattle.lk_types.specs.Table.{Table, type_at, members_of, is_open, is_empty, struct_of, IsKnown}
use Rattle.lk_types.specs.Walks.{fields}
use Rattle.lk_types.specs.declared.c_type.CType.{CType}
use Rattle.lk_types.specs.declared.facts.StructEntry.{StructEntry}
use Rattle.lk_types.specs.declared.facts.TypeFacts.{TypeFacts}
use Rattle.lk_types.specs.declared.member.StructMember.{StructMember}
use Rattle.lk_types.proofs.ClosedLemmas.{closed_members}
use Rattle.lk_types.proofs.GrowLemmas.{IsOwn, get_before, type_grown, size_same, holds_struct_same, parts_same, parts_size_same}
use Rattle.lk_types.proofs.KeptLemmas.{known_got, struct_within}
use Rattle.lk_types.proofs.OrderLemmas.{ordered_same}
use Rattle.lk_types.proofs.PartLemmas.{of_fields}

append-nil : {X : Type 0} (xs : List X) → xs ≡ xs ++ []
append-nil [] = refl
append-nil (x ∷ xs) = ap (λ ys. x ∷ ys) (append-nil xs)

-- a table with the same types, whose structs have at least the members that they had
abbrev with_rest : Table → List (List StructMember) → List ℕ → Table
with_rest table members parts = record { types = table.types; members = members; parts = parts; least = table.least }

pub longer_rest : (table : Table) (members : List (List StructMember)) (parts : List ℕ) → length table.members ≤ length members →
    ((s : ℕ) → is_open table s ≡ false → members_of (with_rest table members parts) s ≡ members_of table s) → IsLonger table (with_rest table members parts)
longer_rest table members parts more same = record { types = ([], append-nil table.types); least = ([], append-nil table.least); structs = more; members = same }

-- what holds of the types and their least ones alone
pub rest_table : (table : Table) (members : List (List StructMember)) (parts : List ℕ) → IsTable table →
    ((t : ℕ) → IsKnown table t → IsType (with_rest table members parts) t) → IsTable (with_rest table members parts)
rest_table table members parts good types = record {
  types = types;
  different = good.different;
  leasts = good.leasts;
  least = λ t known. let l = good.least t known in record { alike = l.alike; least = l.least };
  alike = good.alike;
}

pub parts_rest : (table : Table) (members : List (List StructMember)) (parts : List ℕ) → ArePartsOf table parts → ArePartsOf (with_rest table members parts) parts
parts_rest table members parts ok = record {
  each = λ k d within. let part = ok.each k d within in record { known = part.known; no_void = part.no_void; least = part.least };
  different = ok.different;
}

within_or : (s n : ℕ) → (s < n) ⊎ (n ≤ s)
within_or s zero = inr (omega arith)
within_or zero (suc n) = inl (omega arith)
within_or (suc s) (suc n) = elim (within_or s n) [ inl h ↦ inl (omega arith) | inr h ↦ inr (omega arith) ]

-- a struct of an earlier table is as large in the later one
pub sized_grown : (old new : Table) → IsTable old → IsLonger old new → (entry : StructEntry) → IsSized old entry → IsSized new entry
sized_grown old new good longer entry sized =
    let ts = types_of entry.members in
    record {
      value = sized.value ∙ sym (parts_size_same old new good longer (fields 0 ts) (of_fields (λ u. IsKnown old u × IsClosed old u) ts 0 (closed_members old ts sized.parts)));
      small = sized.small;
      parts = parts_same old new good longer ts sized.parts;
    }

-- a struct that has just begun
abbrev pub fresh : StructEntry
fresh = record { members = []; size = record { nodes = 1; steps = 0 } }

pub fresh_sized : (table : Table) → IsSized table fresh
fresh_sized table = record { value = refl; small = refl; parts = All-nil (IsPartOfObjects table) }

members_at : (structs : List StructEntry) (s : ℕ) → slice_get (map (λ entry. entry.members) structs) s ≡ option_map (λ entry. entry.members) (slice_get structs s)
members_at structs s = slice_get-map (λ entry. entry.members) structs s

pub none_past : (structs : List StructEntry) (s : ℕ) (entry : StructEntry) → length structs ≤ s → slice_get structs s ≡ Some entry → entry ≡ fresh
none_past structs s entry past at = absurd (omega (arith, slice_get_within structs s entry at))

-- behind the structs there is the new one alone
pub last_fresh : (structs : List StructEntry) (s : ℕ) (entry : StructEntry) → length structs ≤ s → slice_get (structs ++ fresh ∷ []) s ≡ Some entry → entry ≡ fresh
last_fresh [] zero entry past at = sym (same_Some fresh entry at)
last_fresh [] (suc s) entry past at = absurd (none-some entry at)
last_fresh (x ∷ structs) zero entry past at = absurd (omega arith)
last_fresh (x ∷ structs) (suc s) entry past at = last_fresh structs s entry (omega arith) at

pub before_last : (structs : List StructEntry) (s : ℕ) → s < length structs → slice_get (structs ++ fresh ∷ []) s ≡ slice_get structs s
before_last structs s within = get_before structs (fresh ∷ []) s within

module _ (types : List (CType × TypeFacts)) (classes : List (CType × ℕ)) (structs : List StructEntry) (parts : List ℕ) (kept : AreKept types classes structs (table_of types structs parts))
    (structs' : List StructEntry) (parts' : List ℕ) (more : length structs ≤ length structs')
    (same : (s : ℕ) → s < length structs → slice_get structs' s ≡ slice_get structs s) where
  -- the members of the first structs are the same
  pub members_same : (s : ℕ) → s < length structs → members_of (table_of types structs' parts') s ≡ members_of (table_of types structs parts) s
  members_same s within = ap (λ o. unwrap_or o []) (members_at structs' s ∙ ap (option_map (λ entry. entry.members)) (same s within) ∙ sym (members_at structs s))

  shut_within : (s : ℕ) → is_open (table_of types structs parts) s ≡ false → s < length structs
  shut_within s shut = of (slice_get structs s) refl
    where
      of : (o : Option StructEntry) → slice_get structs s ≡ o → s < length structs
      of None is = absurd (false≢true (sym shut ∙ ap (λ o. is_empty (unwrap_or o [])) (members_at structs s ∙ ap (option_map (λ entry. entry.members)) is)))
      of (Some entry) is = slice_get_within structs s entry is

  pub rest_longer : IsLonger (table_of types structs parts) (table_of types structs' parts')
  rest_longer =
      longer_rest (table_of types structs parts) (map (λ entry. entry.members) structs') parts'
      (omega (arith, length-map structs (λ entry. entry.members), length-map structs' (λ entry. entry.members), more))
      (λ s shut. members_same s (shut_within s shut))

  own : (t : ℕ) → IsKnown (table_of types structs parts) t → IsOwn (table_of types structs parts) (table_of types structs' parts') kept.table_is rest_longer (type_at (table_of types structs parts) t)
  own t known s is =
      let made = subst (IsMadeOf (table_of types structs parts) t) is (kept.table_is.types t known).made_of in
      members_same s (omega (arith, made.0, length-map structs (λ entry. entry.members)))

  -- what is kept stays true where the structs stay and further ones are fresh
  pub kept_longer : length structs' ≤ 4294967295 → ((s : ℕ) (entry : StructEntry) → length structs ≤ s → slice_get structs' s ≡ Some entry → entry ≡ fresh) →
      ArePartsOf (table_of types structs parts) parts' → AreKept types classes structs' (table_of types structs' parts')
  kept_longer few others ok =
      let old = table_of types structs parts in
      let new = table_of types structs' parts' in
      let good = kept.table_is in
      record {
        table_is = rest_table old new.members parts' good (λ t known. type_grown old new good rest_longer t known (own t known));
        few_types = kept.few_types;
        few_structs = few;
        parts_are = parts_rest old new.members parts' ok;
        holding = λ t form fact at. kept.holding t form fact at ∙ sym (holds_struct_same old new good rest_longer t (known_got types structs parts t form fact at));
        sized = λ t form fact at. let known = known_got types structs parts t form fact at in
            same_kept t form fact at ∙ kept.sized t form fact at ∙ ap Some (sym (size_same old new good rest_longer t known (own t known)));
        structs_sized = λ s entry at. sized_entry others s entry at (within_or s (length structs));
        keyed = kept.keyed;
        keys = kept.keys;
        lesser = kept.lesser;
        ordered = ordered_same old new refl (λ s shut. same_shut others s shut) kept.ordered;
      }
    where
      -- a complete struct is one of the first
      same_shut : ((s : ℕ) (entry : StructEntry) → length structs ≤ s → slice_get structs' s ≡ Some entry → entry ≡ fresh) → (s : ℕ) →
          is_open (table_of types structs' parts') s ≡ false → members_of (table_of types structs' parts') s ≡ members_of (table_of types structs parts) s
      same_shut others s shut = elim (within_or s (length structs)) [ inl within ↦ members_same s within | inr past ↦ of past (slice_get structs' s) refl ]
        where
          of : length structs ≤ s → (o : Option StructEntry) → slice_get structs' s ≡ o → members_of (table_of types structs' parts') s ≡ members_of (table_of types structs parts) s
          of past None is = absurd (false≢true (sym shut ∙ ap (λ o. is_empty (unwrap_or o [])) (members_at structs' s ∙ ap (option_map (λ entry. entry.members)) is)))
          of past (Some entry) is =
              let members = members_at structs' s ∙ ap (option_map (λ entry. entry.members)) is in
              absurd (false≢true (sym shut ∙ ap (λ o. is_empty (unwrap_or o [])) members ∙ ap (λ (e : StructEntry). is_empty e.members) (others s entry past is)))

      same_kept : (t : ℕ) (form : CType) (fact : TypeFacts) → slice_get types t ≡ Some (form, fact) → kept_size structs' form fact ≡ kept_size structs form fact
      same_kept t form fact at = of (struct_of form) refl
        where
          of : (o : Option ℕ) → struct_of form ≡ o → kept_size structs' form fact ≡ kept_size structs form fact
          of None is = ap (size_by structs' fact) is ∙ sym (ap (size_by structs fact) is)
          of (Some s) is =
              ap (size_by structs' fact) is ∙ ap (option_map (λ entry. entry.size)) (same s (struct_within types classes structs parts kept t form fact at s is)) ∙ sym (ap (size_by structs fact) is)

      sized_entry : ((s : ℕ) (entry : StructEntry) → length structs ≤ s → slice_get structs' s ≡ Some entry → entry ≡ fresh) → (s : ℕ) (entry : StructEntry) → slice_get structs' s ≡ Some entry →
          (s < length structs) ⊎ (length structs ≤ s) → IsSized (table_of types structs' parts') entry
      sized_entry others s entry at (inl within) =
          sized_grown (table_of types structs parts) (table_of types structs' parts') kept.table_is rest_longer entry (kept.structs_sized s entry (sym (same s within) ∙ at))
      sized_entry others s entry at (inr past) = subst (IsSized (table_of types structs' parts')) (sym (others s entry past at)) (fresh_sized (table_of types structs' parts'))

module _ (types : List (CType × TypeFacts)) (classes : List (CType × ℕ)) (structs : List StructEntry) (parts : List ℕ) (kept : AreKept types classes structs (table_of types structs parts)) where
  more_begun : length structs ≤ length (structs ++ fresh ∷ [])
  more_begun = omega (arith, length-append structs (fresh ∷ []))

  -- a new struct is put behind the others
  pub kept_begun : (structs' : List StructEntry) → structs' ≡ structs ++ fresh ∷ [] → length structs < 4294967295 → AreKept types classes structs' (table_of types structs' parts)
  kept_begun structs' is few =
      subst (λ ss. AreKept types classes ss (table_of types ss parts)) (sym is)
      (kept_longer types classes structs parts kept (structs ++ fresh ∷ []) parts more_begun (before_last structs) (omega (arith, few, length-append structs (fresh ∷ []))) (last_fresh structs) kept.parts_are)

  pub longer_begun : (structs' : List StructEntry) → structs' ≡ structs ++ fresh ∷ [] → IsLonger (table_of types structs parts) (table_of types structs' parts)
  longer_begun structs' is =
      subst (λ ss. IsLonger (table_of types structs parts) (table_of types ss parts)) (sym is)
      (rest_longer types classes structs parts kept (structs ++ fresh ∷ []) parts more_begun (before_last structs))

pub begun_is : (structs : List StructEntry) (members : List StructMember) (structs' : List StructEntry) → members ≡ [] →
    structs' ≡ structs ++ record { members = members; size = record { nodes = 1; steps = 0 } } ∷ [] → structs' ≡ structs ++ fresh ∷ []
begun_is structs members structs' none is = is ∙ ap (λ ms. structs ++ record { members = ms; size = record { nodes = 1; steps = 0 } } ∷ []) none
