-- The codes of a member's declarator, and whether its struct may have it as a field.
use Rattle.std.proofs.Common.{◌≡◌, ◌∙◌, ◌≤◌, inl, inr, ◌++◌, ℕ, suc, Bool, true, false, List, [], ◌∷◌, Option, Some, None, map, refl, sym, ap, subst, arith, All, IfSome}
use Rattle.std.specs.Prelude.{◌&&◌, ◌||◌, fold, if◌then◌else◌, is_some, not, option_map}
use Rattle.std.proofs.lemmas.Bool.{false≢true}
use Rattle.std.proofs.lemmas.List.{append-nil, map-append}
use Rattle.std.proofs.lemmas.List.Elements.{All-head, All-push, All-tail}
use Rattle.std.proofs.lemmas.Option.{none-some}
use Rattle.lk_base.specs.Code.{number_of}
use Rattle.lk_base.specs.declared.code.Code.TheVariants.{Incomplete, LargeType, Redeclared}
use Rattle.lk_types.specs.Building.{IsTable}
use Rattle.lk_types.specs.Sizes as walks
use Rattle.lk_types.specs.Sizes.{fields_size, is_too_large, size_at, start_size, with_part}
use Rattle.lk_types.specs.Table.{Table, IsKnown}
use Rattle.lk_types.specs.Walks.{fields}
use Rattle.lk_types.specs.declared.size.TypeSize.{TypeSize}
use Rattle.lk_typed.specs.Bounds as spec
use Rattle.lk_typed.specs.Bounds.{is_large_struct, plain, size_of}
use Rattle.lk_typed.specs.DeclaratorRules.{unless}
use Rattle.lk_tree.specs.declared.expression.Declarator.{Declarator}
use Rattle.lk_typed.specs.Env.{Additions, Env, Field, Name, field_of}
use Rattle.lk_typed.specs.Expressions.{declarator_found}
use Rattle.lk_typed.specs.Faults.{Breach, breach, breach_of}
use Rattle.lk_typed.specs.Layers.{faulty_member, field_told, field_unless}
use Rattle.lk_typed.specs.Meaning.{meaning}
use Rattle.lk_typed.specs.MemberRules.{fields_in, large_struct_rules, member_rules}
use Rattle.lk_typed.specs.NodeRules.{is_none_broken, mark}
use Rattle.lk_typed.specs.Nodes.{IsMember}
use Rattle.lk_typed.specs.Sizes.{is_broken, is_complete}
use Rattle.lk_typed.specs.Stands.{IsIn, Mark}
use Rattle.lk_typed.specs.Told.{MemberTold, Named, then_member}
use Rattle.lk_typed.specs.Ty.{Ty}
use Rattle.lk_typed.specs.Typings.{field_in}
use Rattle.lk_typed.specs.declared.members.Field.{Field as CodeField}
use Rattle.lk_rules.proofs.Kept.{the_least_code_is_enough, the_lesser_is_kept}
use Rattle.lk_rules.specs.Keeping.{Kept, KeepsCodes, keep}
use Rattle.lk_check_decl.proofs.Sizes.{tree_size}
use Rattle.lk_check_decl.specs.Breaches.{told}
use Rattle.lk_check_decl.specs.Making.{AreFields}
use Rattle.lk_check_decl.specs.Members.{IsWithMember, size_with, types_of}
use Rattle.lk_found.proofs.Forming.{all_cons}
use Rattle.lk_found.proofs.Keepings.{no_codes}
use Rattle.lk_found.specs.Declarators as declarators
use Rattle.lk_found.specs.Keepings.{KeepsEach, codes_at}
use Rattle.lk_found.specs.MembersOf.{AreMembers, IsLarger, IsSizeWith, TellsFields, is_free, may_have, member_breach, member_codes, member_of}
use Rattle.lk_found.specs.declared.fields.MembersFound.{MembersFound}

-- ---- 21 and 25 of a member's name

abbrev name_codes : Bool → Bool → Name → List Breach
name_codes again complete name = (if again then breach_of Redeclared name ∷ [] else []) ++ unless complete Incomplete

pub name_kept : (old : Kept) (mark : Mark) (again complete : Bool) (name : Name) →
    KeepsCodes old mark (name_codes again complete name) (keep old mark (option_map (member_breach name) (told (name_codes again complete name))))
name_kept old mark true true name = the_lesser_is_kept old mark (Some (breach_of Redeclared name))
name_kept old mark false true name = the_lesser_is_kept old mark None
name_kept old mark false false name = the_lesser_is_kept old mark (Some (breach Incomplete))
name_kept old mark true false name =
    the_least_code_is_enough old (keep old mark (Some (breach_of Redeclared name))) mark (breach_of Redeclared name ∷ breach Incomplete ∷ []) (breach_of Redeclared name) (inl refl) first
    (the_lesser_is_kept old mark (Some (breach_of Redeclared name)))
  where
    first : (c : Breach) → IsIn c (breach_of Redeclared name ∷ breach Incomplete ∷ []) → number_of Redeclared ≤ number_of c.code
    first c (inl is) = subst (λ (b : Breach). number_of Redeclared ≤ number_of b.code) (sym is) (omega arith)
    first c (inr (inl is)) = subst (λ (b : Breach). number_of Redeclared ≤ number_of b.code) (sym is) (omega arith)
    first c (inr (inr among)) = absurd among

pub name_free : (again complete : Bool) (name : Name) → not (is_some (told (name_codes again complete name))) ≡ is_none_broken (name_codes again complete name)
name_free true true name = refl
name_free true false name = refl
name_free false true name = refl
name_free false false name = refl

free_complete_by : (again complete : Bool) (name : Name) → is_none_broken (name_codes again complete name) ≡ true → complete ≡ true
free_complete_by true complete name is = absurd (false≢true is)
free_complete_by false true name is = refl
free_complete_by false false name is = absurd (false≢true is)

pub free_complete : (behind : Env) (before : List Field) (name : Option Named) (t : Ty) → is_free behind before name t ≡ true → is_complete behind.structs t ≡ true
free_complete behind before None t is = absurd (false≢true is)
free_complete behind before (Some named) t is = free_complete_by (is_some (field_of before named.name)) (is_complete behind.structs t) named.name is

-- ---- 32 of a struct with one more member

pub large_told : (large : Bool) → told (unless (not large) LargeType) ≡ Some LargeType → unless (not large) LargeType ≡ breach LargeType ∷ []
large_told true is = refl
large_told false is = absurd (none-some LargeType is)

pub small_told : (large : Bool) → told (unless (not large) LargeType) ≡ None → large ≡ false
small_told true is = absurd (none-some LargeType (sym is))
small_told false is = refl

pub size_kept : (old : Kept) (mark : Mark) (fits : Bool) → KeepsCodes old mark (if fits then [] else breach LargeType ∷ []) (keep old mark (option_map breach (if fits then None else Some LargeType)))
size_kept old mark true = the_lesser_is_kept old mark None
size_kept old mark false = the_lesser_is_kept old mark (Some (breach LargeType))

module _ (table : Table) (good : IsTable table) (types : ℕ → List Ty) (same : AreFields table types) where
  sizes_same : (us : List ℕ) (k : ℕ) (size : TypeSize) → All (IsKnown table) us →
      fold (λ size part. with_part size (spec.part_size (size_of types) part)) size (map plain (map (meaning table) us)) ≡
      fold (λ size b. with_part size (walks.part_size (size_at table) b)) size (fields k us)
  sizes_same [] k size known = refl
  sizes_same (u ∷ us) k size known =
      ap (λ part. fold (λ size part. with_part size (spec.part_size (size_of types) part)) (with_part size part) (map plain (map (meaning table) us)))
      (tree_size table good types same u (All-head (IsKnown table) u us known)) ∙
      sizes_same us (suc k) (with_part size (size_at table u)) (All-tail (IsKnown table) u us known)

  pub struct_size : (us : List ℕ) → All (IsKnown table) us → spec.size_of_parts (size_of types) (map plain (map (meaning table) us)) ≡ fields_size table us
  struct_size us known = sizes_same us 0 start_size known

pub types_in_order : (table : Table) (xs : List CodeField) → types_of (map (field_in table) xs) ≡ map (meaning table) (map (λ field. field.ty) xs)
types_in_order table [] = refl
types_in_order table (x ∷ xs) = ap (λ ts. meaning table x.ty ∷ ts) (types_in_order table xs)

known_types : (table : Table) (xs : List CodeField) → All (λ field. IsKnown table field.ty) xs → All (IsKnown table) (map (λ field. field.ty) xs)
known_types table [] all = λ k d within. absurd (omega (arith, within))
known_types table (x ∷ xs) all =
    all_cons (IsKnown table) x.ty (map (λ field. field.ty) xs) (All-head (λ (field : CodeField). IsKnown table field.ty) x xs all)
    (known_types table xs (All-tail (λ (field : CodeField). IsKnown table field.ty) x xs all))

module _ (table : Table) (good : IsTable table) (env : Env) (same : AreFields table (fields_in env)) (xs : List CodeField) (known : All (λ field. IsKnown table field.ty) xs) where
  pub size_before : fields_size table (map (λ field. field.ty) xs) ≡ size_with env (types_of (map (field_in table) xs))
  size_before =
      sym (struct_size table good (fields_in env) same (map (λ field. field.ty) xs) (known_types table xs known)) ∙ ap (size_with env) (sym (types_in_order table xs))

  size_after : (t : ℕ) → IsKnown table t → size_with env (types_of (map (field_in table) xs) ++ meaning table t ∷ []) ≡ fields_size table (map (λ field. field.ty) xs ++ t ∷ [])
  size_after t there =
      ap (λ ts. size_with env (ts ++ meaning table t ∷ [])) (types_in_order table xs) ∙
      ap (size_with env) (sym (map-append (meaning table) (map (λ field. field.ty) xs) (t ∷ []))) ∙
      struct_size table good (fields_in env) same (map (λ field. field.ty) xs ++ t ∷ []) (All-push (IsKnown table) (map (λ field. field.ty) xs) t (known_types table xs known) there)

  pub larger_is : (t : ℕ) → IsKnown table t → (larger : Option TypeSize) → IsWithMember env (map (field_in table) xs) (meaning table t) larger → IsLarger table env xs t larger
  larger_is t there None with_it = ap is_none_broken (large_told (is_large_struct (fields_in env) (types_of (map (field_in table) xs) ++ meaning table t ∷ [])) with_it)
  larger_is t there (Some size) with_it =
      let small = small_told (is_large_struct (fields_in env) (types_of (map (field_in table) xs) ++ meaning table t ∷ [])) with_it.1 in (
        record { size = with_it.0 ∙ size_after t there; small = ap is_too_large with_it.0 ∙ small },
        ap (λ large. is_none_broken (unless (not large) LargeType)) small,
      )

  pub larger_codes : (t : ℕ) (larger : Option TypeSize) → IsWithMember env (map (field_in table) xs) (meaning table t) larger →
      large_struct_rules env (map (field_in table) xs) (meaning table t) ≡ (if is_some larger then [] else breach LargeType ∷ [])
  larger_codes t None with_it = large_told (is_large_struct (fields_in env) (types_of (map (field_in table) xs) ++ meaning table t ∷ [])) with_it
  larger_codes t (Some size) with_it =
      ap (λ large. unless (not large) LargeType) (small_told (is_large_struct (fields_in env) (types_of (map (field_in table) xs) ++ meaning table t ∷ [])) with_it.1)

-- ---- whether there is a field

pub there_where : (table : Table) (behind : Env) (xs : List CodeField) (t : ℕ) (free : Bool) (larger : Option TypeSize) → IsLarger table behind xs t larger →
    is_some (if free then larger else None) ≡ (free && is_none_broken (large_struct_rules behind (map (field_in table) xs) (meaning table t)))
there_where table behind xs t true None is = sym is
there_where table behind xs t true (Some size) is = sym is.1
there_where table behind xs t false larger is = refl

none_of_both : (xs ys : List Breach) → is_none_broken (xs ++ ys) ≡ (is_none_broken xs && is_none_broken ys)
none_of_both [] ys = refl
none_of_both (x ∷ xs) ys = refl

abbrev as_field : Name → Ty → MemberTold → MemberTold
as_field name t faulty = record faulty { fields = record { name = name; type = t } ∷ []; sound = true }

unless_none : (rules : List Breach) (name : Name) (t : Ty) (faulty : MemberTold) → field_unless rules name t faulty ≡ (if is_none_broken rules then as_field name t faulty else faulty)
unless_none [] name t faulty = refl
unless_none (r ∷ rs) name t faulty = refl

pub field_broken : (behind : Env) (before : List Field) (name : Option Named) (t : Ty) (faulty : MemberTold) → is_broken behind.structs t ≡ true →
    field_told behind before name (Some t) faulty ≡ faulty
field_broken behind before None t faulty is = refl
field_broken behind before (Some named) t faulty is =
    ap (λ b. if b then faulty else field_unless (member_rules behind before named.name t ++ large_struct_rules behind before t) named.name t faulty) is

field_by : (behind : Env) (before : List Field) (named : Named) (t : Ty) (faulty : MemberTold) → is_broken behind.structs t ≡ false →
    field_told behind before (Some named) (Some t) faulty ≡ (if may_have behind before (Some named) t then as_field named.name t faulty else faulty)
field_by behind before named t faulty is =
    ap (λ b. if b then faulty else field_unless (member_rules behind before named.name t ++ large_struct_rules behind before t) named.name t faulty) is ∙
    unless_none (member_rules behind before named.name t ++ large_struct_rules behind before t) named.name t faulty ∙
    ap (λ b. if b then as_field named.name t faulty else faulty) (none_of_both (member_rules behind before named.name t) (large_struct_rules behind before t))

pub field_there : (behind : Env) (before : List Field) (named : Named) (t : Ty) (faulty : MemberTold) → is_broken behind.structs t ≡ false →
    may_have behind before (Some named) t ≡ true → field_told behind before (Some named) (Some t) faulty ≡ as_field named.name t faulty
field_there behind before named t faulty whole may = field_by behind before named t faulty whole ∙ ap (λ b. if b then as_field named.name t faulty else faulty) may

pub field_absent : (behind : Env) (before : List Field) (name : Option Named) (t : Ty) (faulty : MemberTold) → is_broken behind.structs t ≡ false →
    may_have behind before name t ≡ false → field_told behind before name (Some t) faulty ≡ faulty
field_absent behind before None t faulty whole may = refl
field_absent behind before (Some named) t faulty whole may = field_by behind before named t faulty whole ∙ ap (λ b. if b then as_field named.name t faulty else faulty) may

-- ---- what is put

and_false : (a : Bool) → (a && false) ≡ false
and_false true = refl
and_false false = refl

and_true : (a : Bool) → (a && true) ≡ a
and_true true = refl
and_true false = refl

pub tells_failed : (table : Table) (before after : MembersFound) (others told : MemberTold) (added : Additions) (holds : Bool) → after ≡ record before { is_sound = false } →
    TellsFields table before others → told ≡ faulty_member added holds → TellsFields table after (then_member others told)
tells_failed table before after others told added holds same tells is =
    subst (λ t. TellsFields table after (then_member others t)) (sym is)
    (record {
      fields = ap (λ (m : MembersFound). map (field_in table) m.fields) same ∙ tells.fields ∙ sym (append-nil others.fields);
      sound = ap (λ (m : MembersFound). m.is_sound) same ∙ sym (and_false others.sound);
    })

pub tells_field : (table : Table) (before after : MembersFound) (others told faulty : MemberTold) (field : CodeField) → after.fields ≡ before.fields ++ field ∷ [] →
    after.is_sound ≡ before.is_sound → TellsFields table before others → told ≡ as_field field.name (meaning table field.ty) faulty → TellsFields table after (then_member others told)
tells_field table before after others told faulty field items sound tells is =
    subst (λ t. TellsFields table after (then_member others t)) (sym is)
    (record {
      fields = ap (map (field_in table)) items ∙ map-append (field_in table) before.fields (field ∷ []) ∙ ap (λ xs. xs ++ field_in table field ∷ []) tells.fields;
      sound = sound ∙ tells.sound ∙ sym (and_true others.sound);
    })

pub untyped : (behind : Env) (bit_field : Bool) (before : List Field) (name : Option Named) (faulty : MemberTold) → member_of behind bit_field before name None faulty ≡ faulty
untyped behind true before name faulty = refl
untyped behind false before None faulty = refl
untyped behind false before (Some named) faulty = refl

pub untyped_codes : (kept : Kept) (behind : Env) (before : List Field) (d : Declarator) → KeepsEach kept (member_codes behind before d None) kept
untyped_codes kept behind before d = by_name (declarator_found d).name
  where
    by_name : (name : Option Named) → KeepsEach kept (declarators.name_codes behind None (IsMember before) name ++ codes_at (mark d.spot d.ordinal) [] ∷ []) kept
    by_name None = (kept, no_codes kept (mark d.spot d.ordinal), refl)
    by_name (Some named) = (kept, no_codes kept (mark named.spot named.ordinal), (kept, no_codes kept (mark d.spot d.ordinal), refl))

pub holds_or : (behind : Env) (bit_field : Bool) (before : List Field) (name : Option Named) (t : Option Ty) (added : Additions) (holds : Bool) →
    (member_of behind bit_field before name t (faulty_member added holds)).holds_sizeof ≡ holds
holds_or behind true before name t added holds = refl
holds_or behind false before None t added holds = refl
holds_or behind false before (Some named) None added holds = refl
holds_or behind false before (Some named) (Some t) added holds = of (is_broken behind.structs t)
  where
    unless_holds : (rules : List Breach) → (field_unless rules named.name t (faulty_member added holds)).holds_sizeof ≡ holds
    unless_holds [] = refl
    unless_holds (r ∷ rs) = refl

    of : (b : Bool) → (if b then faulty_member added holds else field_unless (member_rules behind before named.name t ++ large_struct_rules behind before t) named.name t (faulty_member added holds)).holds_sizeof ≡ holds
    of true = refl
    of false = unless_holds (member_rules behind before named.name t ++ large_struct_rules behind before t)

-- with whether a sizeof stands in it
pub with_sizeof : (table : Table) (before middle after : MembersFound) (others told : MemberTold) (holds : Bool) → middle ≡ record before { holds_sizeof = before.holds_sizeof || holds } →
    after.holds_sizeof ≡ middle.holds_sizeof → before.holds_sizeof ≡ others.holds_sizeof → told.holds_sizeof ≡ holds → TellsFields table after (then_member others told) →
    AreMembers table after (then_member others told)
with_sizeof table before middle after others told holds same kept are told_holds tells = record {
  fields = tells.fields;
  sound = tells.sound;
  holds_sizeof = kept ∙ ap (λ (m : MembersFound). m.holds_sizeof) same ∙ ap (λ h. h || holds) are ∙ ap (λ h. others.holds_sizeof || h) (sym told_holds);
}

-- ---- where there is a size

pub size_there : (table : Table) (behind : Env) (xs : List CodeField) (t : ℕ) (larger : Option TypeSize) (free : Bool) → IsLarger table behind xs t larger →
    IfSome (if free then larger else None) (IsSizeWith table xs t)
size_there table behind xs t None true is = tt
size_there table behind xs t (Some size) true is = is.0
size_there table behind xs t larger false is = tt

pub if_free : {A : Type 0} (free : Bool) (larger : Option TypeSize) → (free ≡ true → A) → IfSome (if free then larger else None) (λ size. A)
if_free true None f = tt
if_free true (Some size) f = f refl
if_free false larger f = tt

-- ---- all that a declarator of a member does

pub tells_of : (table : Table) (before middle : MembersFound) (told : MemberTold) (holds : Bool) → middle ≡ record before { holds_sizeof = before.holds_sizeof || holds } →
    AreMembers table before told → TellsFields table middle told
tells_of table before middle told holds same are = record {
  fields = ap (λ (m : MembersFound). map (field_in table) m.fields) same ∙ are.fields;
  sound = ap (λ (m : MembersFound). m.is_sound) same ∙ are.sound;
}

pub as_bit_field : (behind : Env) (bit_field : Bool) (before : List Field) (name : Option Named) (t : Option Ty) (faulty : MemberTold) → bit_field ≡ true →
    member_of behind bit_field before name t faulty ≡ faulty
as_bit_field behind bit_field before name t faulty is = ap (λ b. member_of behind b before name t faulty) is
