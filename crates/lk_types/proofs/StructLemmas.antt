-- What a table keeps of its structs tells that they are sized.
use Rattle.std.proofs.Common.{◌≡◌, ◌∙◌, ◌<◌, ℕ, zero, suc, false, List, [], ◌∷◌, length, refl, sym, ap, subst, arith, All, Some, None, Option}
use Rattle.std.specs.List.{slice_get}
use Rattle.std.proofs.lemmas.List.{length-map}
use Rattle.lk_types.specs.Building.{HasSizedStructs, IsPartOfObjects, types_of}
use Rattle.lk_types.specs.Kept.{table_of, AreKept}
use Rattle.lk_types.specs.Sizes.{fields_size, is_over}
use Rattle.lk_types.specs.Table.{Table, members_of}
use Rattle.lk_types.specs.declared.c_type.CType.{CType}
use Rattle.lk_types.specs.declared.facts.StructEntry.{StructEntry}
use Rattle.lk_types.specs.declared.facts.TypeFacts.{TypeFacts}
use Rattle.lk_types.proofs.KeptLemmas.{members_got}

-- within a list something stands
got_within : {X : Type 0} (xs : List X) (k : ℕ) → k < length xs → (x : X) × (slice_get xs k ≡ Some x)
got_within [] k within = absurd (omega arith)
got_within (x ∷ xs) zero within = (x, refl)
got_within (x ∷ xs) (suc k) within = got_within xs k (omega arith)

module _ (types : List (CType × TypeFacts)) (classes : List (CType × ℕ)) (structs : List StructEntry) (parts : List ℕ) (kept : AreKept types classes structs (table_of types structs parts)) where
  abbrev table : Table
  table = table_of types structs parts

  entry_at : (s : ℕ) → s < length table.members → (entry : StructEntry) × (slice_get structs s ≡ Some entry)
  entry_at s within = got_within structs s (omega (arith, within, length-map structs (λ entry. entry.members)))

  pub sized_structs : HasSizedStructs table
  sized_structs = record {
    parts = λ s within.
        let entry = entry_at s within in
        subst (λ members. All (IsPartOfObjects table) (types_of members)) (sym (members_got types structs parts s entry.0 entry.1)) (kept.structs_sized s entry.0 entry.1).parts;
    small = λ s within.
        let entry = entry_at s within in
        let sized = kept.structs_sized s entry.0 entry.1 in
        ap (λ members. is_over (fields_size table (types_of members))) (members_got types structs parts s entry.0 entry.1) ∙ ap is_over (sym sized.value) ∙ sized.small;
  }
