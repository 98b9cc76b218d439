-- Which types of the table can be those of elements and members.
use Rattle.std.proofs.Common.{◌≡◌, ◌∙◌, ℕ, zero, suc, true, false, List, [], ◌∷◌, map, refl, sym, ap, All}
use Rattle.std.specs.Prelude.{not, unwrap_or}
use Rattle.std.specs.List.{slice_get}
use Rattle.std.proofs.lemmas.Bool.{and_parts, false≢true}
use Rattle.std.proofs.lemmas.List.Elements.{All-head, All-tail}
use Rattle.lk_types.specs.Building.{IsPartOfObjects}
use Rattle.lk_types.specs.Table.{Table, IsKnown, is_empty, type_at}
use Rattle.lk_types.specs.declared.c_type.CType.{CType}
use Rattle.lk_typed.proofs.Meanings.{meaning_is}
use Rattle.lk_typed.specs.Env.{members_of}
use Rattle.lk_typed.specs.Meaning.{meaning, tree_of}
use Rattle.lk_typed.specs.Sizes.{are_known, is_broken, is_complete, is_faulty}
use Rattle.lk_typed.specs.Typings.{structs_in}
use Rattle.lk_typed.specs.declared.members.Field.{Field}
use Rattle.lk_typed.specs.declared.members.Members.{Members}
use Rattle.lk_typed.specs.declared.members.Members.TheVariants.{NotYet, Begun, Known, Faulty}
use Rattle.lk_found.specs.Structs.{HasMembers, listed, member_of}
use Rattle.lk_types.specs.Table as lists
use Rattle.lk_types.specs.declared.c_type.CType.TheVariants as forms
use Rattle.lk_checker.specs.States.{IsSound}
use Rattle.lk_checker.specs.declared.checker.Checker.{Checker}

empty_same : (fields : List Field) → is_empty (map member_of fields) ≡ is_empty fields
empty_same [] = refl
empty_same (f ∷ fs) = refl

-- a struct that is complete and not faulty has members in the table
has_listed : (table : Table) (xs : List Members) (s : ℕ) → All HasMembers xs → are_known (members_of (structs_in table xs) s) ≡ true →
    is_faulty (members_of (structs_in table xs) s) ≡ false → is_empty (unwrap_or (slice_get (map listed xs) s) []) ≡ false
has_listed table [] zero all complete sound = absurd (false≢true complete)
has_listed table [] (suc s) all complete sound = absurd (false≢true complete)
has_listed table (NotYet ∷ xs) zero all complete sound = absurd (false≢true complete)
has_listed table (Begun ∷ xs) zero all complete sound = absurd (false≢true complete)
has_listed table (Known fields ∷ xs) zero all complete sound = empty_same fields ∙ All-head HasMembers (Known fields) xs all
has_listed table (Faulty ∷ xs) zero all complete sound = absurd (false≢true (sym sound))
has_listed table (x ∷ xs) (suc s) all complete sound = has_listed table xs s (All-tail HasMembers x xs all) complete sound

module _ (checker : Checker) (sound : IsSound checker) where
  struct_form : (s : ℕ) → are_known (members_of (structs_in checker.types checker.names.structs) s) ≡ true →
      is_faulty (members_of (structs_in checker.types checker.names.structs) s) ≡ false → lists.is_open checker.types s ≡ false
  struct_form s complete whole =
      ap (λ members. is_empty (unwrap_or (slice_get members s) [])) sound.structs.members ∙ has_listed checker.types checker.names.structs s sound.structs.some complete whole

  complete_form : (form : CType) → is_complete (structs_in checker.types checker.names.structs) (tree_of (meaning checker.types) form) ≡ true →
      is_broken (structs_in checker.types checker.names.structs) (tree_of (meaning checker.types) form) ≡ false → lists.is_complete_form checker.types form ≡ true
  complete_form forms.Void complete whole = complete
  complete_form (forms.Int k) complete whole = refl
  complete_form forms.ThreadId complete whole = refl
  complete_form forms.Mutex complete whole = refl
  complete_form forms.Cond complete whole = refl
  complete_form (forms.Pointer t) complete whole = refl
  complete_form (forms.Array t n) complete whole = (and_parts _ _ complete).0
  complete_form (forms.Struct s) complete whole = ap not (struct_form s complete whole)
  complete_form (forms.Function r ps dots) complete whole = complete
  complete_form (forms.Opaque n) complete whole = complete

  pub part_if_complete : (t : ℕ) → IsKnown checker.types t → is_complete (structs_in checker.types checker.names.structs) (meaning checker.types t) ≡ true →
      is_broken (structs_in checker.types checker.names.structs) (meaning checker.types t) ≡ false → IsPartOfObjects checker.types t
  part_if_complete t known complete whole =
      let is = meaning_is checker.types sound.ready.table_is t known in
      record {
        known = known;
        complete = complete_form (type_at checker.types t) (ap (is_complete (structs_in checker.types checker.names.structs)) (sym is) ∙ complete)
            (ap (is_broken (structs_in checker.types checker.names.structs)) (sym is) ∙ whole);
      }
