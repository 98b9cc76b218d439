-- The structs of a list and of the table, where one begins, fails or is completed.
use Rattle.std.proofs.Common.{◌≡◌, ◌∙◌, ◌<◌, ℕ, zero, suc, true, false, List, [], ◌∷◌, ◌++◌, Option, Some, None, length, map, refl, sym, ap, subst, arith, All, ◌+◌, get_or, take}
use Rattle.std.specs.List.{slice_get, slice_set}
use Rattle.std.proofs.lemmas.Bool.{false≢true}
use Rattle.std.proofs.lemmas.List.Elements.{All-head, All-tail}
use Rattle.std.proofs.lemmas.Option.{none-some, same_Some}
use Rattle.lk_types.specs.Building.{IsTable, IsLonger, IsPartOfObjects, types_of}
use Rattle.lk_types.specs.Table.{Table, IsKnown, is_empty}
use Rattle.lk_types.specs.declared.member.StructMember.{StructMember}
use Rattle.lk_typed.specs.Env as env
use Rattle.lk_typed.specs.Env.{Env, Begins, both, Tag, TagMeaning, AStructTag, AnEnumTag, AFaultyTag, members_of}
use Rattle.lk_typed.specs.Redeclared as tags
use Rattle.lk_typed.specs.Redeclared.{DefinesStruct, may_use}
use Rattle.lk_typed.specs.Told.{meant, steps, struct_meant, tag_additions}
use Rattle.lk_typed.specs.Typings.{field_in, structs_in}
use Rattle.lk_typed.proofs.Meanings.{meaning_stays}
use Rattle.lk_typed.specs.declared.members.Field.{Field}
use Rattle.lk_typed.specs.declared.members.Members.{Members}
use Rattle.lk_typed.specs.declared.members.Members.TheVariants.{NotYet, Begun, Known, Faulty}
use Rattle.lk_found.proofs.Forming.{all_cons}
use Rattle.lk_found.specs.Begun.{KeepsBegun}
use Rattle.lk_found.specs.Structs.{listed, member_of}

-- ---- lists of structs

pub got_set : {A : Type 0} (xs : List A) (s : ℕ) (x y : A) → slice_get xs s ≡ Some x → slice_get (slice_set xs s y) s ≡ Some y
got_set [] s x y got = absurd (none-some x got)
got_set (z ∷ xs) zero x y got = refl
got_set (z ∷ xs) (suc s) x y got = got_set xs s x y got

pub begun_stays : (xs : List Members) (s : ℕ) → KeepsBegun xs (slice_set xs s Begun)
begun_stays [] s t got = got
begun_stays (x ∷ xs) zero zero got = refl
begun_stays (x ∷ xs) zero (suc t) got = got
begun_stays (x ∷ xs) (suc s) zero got = got
begun_stays (x ∷ xs) (suc s) (suc t) got = begun_stays xs s t got

pub begun_before : (xs ys : List Members) → KeepsBegun xs (xs ++ ys)
begun_before [] ys t got = absurd (none-some Begun got)
begun_before (x ∷ xs) ys zero got = got
begun_before (x ∷ xs) ys (suc t) got = begun_before xs ys t got

pub last_is : (xs : List Members) (x : Members) → slice_get (xs ++ x ∷ []) (length xs) ≡ Some x
last_is [] x = refl
last_is (y ∷ xs) x = last_is xs x

pub listed_set : (xs : List Members) (s : ℕ) (old new : Members) → slice_get xs s ≡ Some old → listed old ≡ listed new → map listed (slice_set xs s new) ≡ map listed xs
listed_set [] s old new got same = refl
listed_set (x ∷ xs) zero old new got same = ap (λ m. m ∷ map listed xs) (sym same ∙ ap listed (sym (same_Some x old got)))
listed_set (x ∷ xs) (suc s) old new got same = ap (λ ms. listed x ∷ ms) (listed_set xs s old new got same)

-- a struct that may be defined is one of which nothing is known yet
pub open_is : (table : Table) (xs : List Members) (s : ℕ) → s < length xs → tags.is_open (members_of (structs_in table xs) s) ≡ true → slice_get xs s ≡ Some NotYet
open_is table [] s within is = absurd (omega (arith, within))
open_is table (NotYet ∷ xs) zero within is = refl
open_is table (Begun ∷ xs) zero within is = absurd (false≢true is)
open_is table (Known fields ∷ xs) zero within is = absurd (false≢true is)
open_is table (Faulty ∷ xs) zero within is = absurd (false≢true is)
open_is table (x ∷ xs) (suc s) within is = open_is table xs s (omega (arith, within)) is

pub may_begin : (e : Env) (found : Option Tag) (s : ℕ) → struct_meant found ≡ Some s → may_use e found DefinesStruct ≡ true → tags.is_open (members_of e.structs s) ≡ true
may_begin e None s meant may = absurd (none-some s meant)
may_begin e (Some tag) s meant may = of tag.meaning meant may
  where
    of : (m : TagMeaning) → struct_meant (Some (record tag { meaning = m })) ≡ Some s → tags.admits e m DefinesStruct ≡ true → tags.is_open (members_of e.structs s) ≡ true
    of (AStructTag t) same is = subst (λ t. tags.is_open (members_of e.structs t) ≡ true) (same_Some t s same) is
    of AnEnumTag same is = absurd (none-some s same)
    of AFaultyTag same is = absurd (none-some s same)

pub map_parts : (P : StructMember → Type 0) (fields : List Field) → All (λ field. P (member_of field)) fields → All P (map member_of fields)
map_parts P [] all = λ k d within. absurd (omega (arith, within))
map_parts P (f ∷ fs) all = all_cons P (member_of f) (map member_of fs) (All-head (λ field. P (member_of field)) f fs all) (map_parts P fs (All-tail (λ field. P (member_of field)) f fs all))

pub types_are : (fields : List Field) → types_of (map member_of fields) ≡ map (λ field. field.ty) fields
types_are [] = refl
types_are (f ∷ fs) = ap (λ ts. f.ty ∷ ts) (types_are fs)

pub empty_same : (fields : List Field) → is_empty (map member_of fields) ≡ is_empty fields
empty_same [] = refl
empty_same (f ∷ fs) = refl

-- ---- the struct that a tag means

pub tagged : (tag : Option env.Name) (m : TagMeaning) → both (steps (Begins ∷ [])) (tag_additions tag m) ≡ both (tag_additions tag m) (steps (Begins ∷ []))
tagged None m = refl
tagged (Some name) m = refl

-- ---- fields

pub fields_stay : (old new : Table) → IsTable old → IsLonger old new → (fields : List Field) → All (λ field. IsKnown old field.ty) fields → map (field_in new) fields ≡ map (field_in old) fields
fields_stay old new good longer [] known = refl
fields_stay old new good longer (f ∷ fs) known =
    cons_same (ap (λ t. record { name = f.name; type = t }) (meaning_stays old new good longer f.ty (All-head (λ field. IsKnown old field.ty) f fs known)))
    (fields_stay old new good longer fs (All-tail (λ field. IsKnown old field.ty) f fs known))
  where
    cons_same : {a b : env.Field} {xs ys : List env.Field} → a ≡ b → xs ≡ ys → a ∷ xs ≡ b ∷ ys
    cons_same p q = cc

pub parts_known : (table : Table) (fields given : List Field) → given ≡ fields → All (λ field. IsPartOfObjects table field.ty) fields → All (λ field. IsKnown table field.ty) given
parts_known table fields given same parts = subst (λ (fs : List Field). All (λ field. IsKnown table field.ty) fs) (sym same) (λ k d within. (parts k d within).known)

pub taken_more : {A B : Type 0} (f : A → B) (xs : List A) (i : ℕ) (x : A) → x ≡ get_or xs i x → i < length xs → map f (take i xs) ++ f x ∷ [] ≡ map f (take (i + 1) xs)
taken_more f [] i x is within = absurd (omega (arith, within))
taken_more f (y ∷ xs) zero x is within = ap (λ z. f z ∷ []) is
taken_more f (y ∷ xs) (suc i) x is within =
    let one_more : suc (i + 1) ≡ suc i + 1 = omega arith in ap (λ ys. f y ∷ ys) (taken_more f xs i x is (omega (arith, within))) ∙ ap (λ n. map f (take n (y ∷ xs))) one_more

-- some environment
pub blank : Env
blank = record {
  outside = record { defined = []; externs = [] };
  declared = [];
  base = 0;
  tags = [];
  tag_base = 0;
  structs = [];
  result = None;
  role = env.AsOperand;
  in_size = false;
}
