-- The types of a source in the program's table: they are as large there, so what is made of them can be put, and can complete structs.
use Rattle.std.proofs.Common.{◌≡◌, ◌∙◌, ◌⊎◌, ◌+◌, ◌<◌, ◌≤◌, ◌++◌, inl, inr, ℕ, zero, suc, Bool, true, false, List, [], ◌∷◌, All, Some, refl, sym, ap, subst, arith, length, length-append, take}
use Rattle.std.proofs.lemmas.Bool.{cases_eq, cases_lt, false≢true}
use Rattle.std.proofs.lemmas.List.Elements.{All-cons, All-head, All-map, All-nil, All-tail, All-weaker}
use Rattle.std.proofs.lemmas.Option.{none-some, slice_get-map, slice_get_within}
use Rattle.std.specs.List.{slice_get, AllZip}
use Rattle.std.specs.Option.{option_map}
use Rattle.std.specs.Prelude.{unwrap_or}
use Rattle.lk_link.specs.Sources.{Units}
use Rattle.lk_typed.specs.declared.unit.TypedUnit.{TypedUnit}
use Rattle.lk_types.specs.Building.{CanComplete, IsClosed, IsForm, IsLonger, IsPartOfObjects, IsPassed, types_of, with_members}
use Rattle.lk_types.specs.Order.{IsDoneBy}
use Rattle.lk_types.specs.Sizes.{fields_size, form_size, is_over, size_at, start_size, steps_of, with_part, with_types}
use Rattle.lk_types.specs.Table.{IsKnown, Table, is_empty, is_open, members_of, struct_of}
use Rattle.lk_types.specs.Walks.{fields}
use Rattle.lk_types.specs.declared.c_type.CType.{CType}
use Rattle.lk_types.specs.declared.c_type.CType.TheVariants.{Void, Int, ThreadId, Mutex, Cond, Pointer, Array, Struct, Function, Opaque}
use Rattle.lk_types.specs.declared.member.StructMember.{StructMember}
use Rattle.lk_types.specs.declared.size.TypeSize.{TypeSize}
use Rattle.lk_types.proofs.ClosedLemmas.{closed_complete, closed_members}
use Rattle.lk_types.proofs.FormEq.{got_take, take_more}
use Rattle.lk_types.proofs.GrowLemmas.{longer_same, parts_size_same}
use Rattle.lk_types.proofs.KeptLemmas.{could_put_got}
use Rattle.lk_types.proofs.OrderLemmas.{complete_struct}
use Rattle.lk_types.proofs.PartLemmas.{of_fields}
use Rattle.lk_types.proofs.SizeLemmas.{all_read, fields_size_is}
use Rattle.lk_join.specs.Classes.{AreNumbers}
use Rattle.lk_join.specs.Completing.{AreOpen, GivesMembers, IsCompleted, IsElementHeld, IsHeld, IsToComplete}
use Rattle.lk_join.specs.Forms.{ArePutAt, HasForm, IsHere, IsMember, IsPutAt}
use Rattle.lk_join.specs.Forms.HasForm.{void, integer, thread, mutex, condition, opaque, pointer, array, struct, function}
use Rattle.lk_join.specs.Large.{AreAllAsLarge, AreAsLarge, AreAsLargeHere, HaveTypeTables, IsDoneBefore, IsJoining, IsTypeTable, KeepsOpen, struct_size}
use Rattle.lk_join.proofs.Alike.{HasMembersAs, IsMadeAs, IsOnePair, complete_one, form_one, holds_one, members_closed, size_is, types_size}
use Rattle.lk_join.proofs.Alike.IsMadeAs.{as_array, as_function, as_plain, as_pointer, as_struct}
use Rattle.lk_join.proofs.Completed.{completed_later, give_completes, give_gives, never_both, open_past, others_stay}
use Rattle.lk_join.proofs.Growing.{all_put_later, all_put_more}
use Rattle.lk_join.proofs.Members.{zip_some}
use Rattle.lk_join.proofs.Sizing.{numbers_as_large}
use Rattle.lk_join.proofs.Stepping.{same_element, same_number}
use Rattle.lk_join.proofs.Zips.{zip_back}

pub shut_known : (table : Table) (s : ℕ) → is_open table s ≡ false → s < length table.members
shut_known table s shut = elim (cases_lt s (length table.members)) [
  | inl less ↦ less
  | inr past ↦ absurd (never_both (is_open table s) (open_past table s past) shut)
]

-- a complete struct stays as large
pub grown_size : (old new : Table) → IsTypeTable old → IsLonger old new → (n : ℕ) → is_open old n ≡ false → struct_size new n ≡ struct_size old n
grown_size old new is longer n shut =
    let ts = types_of (members_of old n) in
    ap (λ ms. fields_size new (types_of ms)) (longer.members n shut) ∙
    parts_size_same old new is.table_is longer (fields 0 ts) (of_fields (λ u. IsKnown old u × IsClosed old u) ts 0 (closed_members old ts (is.structs.parts n (shut_known old n shut))))

zip_full : {X Y : Type 0} (R : X → Y → Type 0) (xs : List X) (ys : List Y) → AllZip R xs ys → is_empty xs ≡ false → is_empty ys ≡ false
zip_full R [] ys zip full = absurd (false≢true (sym full))
zip_full R (x ∷ xs) [] zip full = absurd zip
zip_full R (x ∷ xs) (y ∷ ys) zip full = refl

member_zip : (row : List ℕ) (ms ns : List StructMember) → AllZip (IsMember row) ms ns → AllZip (IsHere row) (types_of ms) (types_of ns)
member_zip row [] [] zip = tt
member_zip row [] (n ∷ ns) zip = absurd zip
member_zip row (m ∷ ms) [] zip = absurd zip
member_zip row (m ∷ ms) (n ∷ ns) zip = (zip.0.1, member_zip row ms ns zip.1)

made_as : (row structs : List ℕ) {form other : CType} → HasForm row structs form other → IsMadeAs (IsHere row) (IsHere structs) form other
made_as row structs void = as_plain tt
made_as row structs integer = as_plain tt
made_as row structs thread = as_plain tt
made_as row structs mutex = as_plain tt
made_as row structs condition = as_plain tt
made_as row structs opaque = as_plain tt
made_as row structs (pointer at) = as_pointer at
made_as row structs (array at) = as_array at
made_as row structs (struct at) = as_struct at
made_as row structs (function at each) = as_function at each

module _ (types : Table) (row structs : List ℕ) where
  -- a type of the source and the one that it is in the program are made in the same way
  forms_here : (table : Table) → ArePutAt table row structs (take (length row) types.types) → (t u : ℕ) → IsHere row t u → IsOnePair types table (IsHere row) (IsHere structs) t u
  forms_here table put t u at =
      let one = zip_back (IsPutAt table row structs) (take (length row) types.types) row put t u at in
      record { form = one.0; other = one.2.form_here; at = (got_take types.types (length row) t one.0 one.1).1; bt = one.2.at; made = made_as row structs one.2.is }

  -- ---- a form, and members, of the source

  module _ (is : IsTypeTable types) (table : Table) (h : IsJoining types row structs table) where
    forms : (t u : ℕ) → IsHere row t u → IsOnePair types table (IsHere row) (IsHere structs) t u
    forms t u at = forms_here table h.put t u at

    same_large : (a n : ℕ) → IsHere structs a n → is_open types a ≡ false → is_open table n ≡ false →
        (struct_size types a ≡ struct_size table n) ⊎ HasMembersAs types table (IsHere row) (IsHere structs) a n
    same_large a n at shut closed = inl (sym (h.large a n at shut closed))

    here_known : (t u : ℕ) → IsHere row t u → IsKnown table u
    here_known t u at = let pair = forms t u at in slice_get_within table.types u pair.other pair.bt

    -- the type of an element or member is one there, where its struct is complete
    part_here : (t u : ℕ) → IsHere row t u → IsPartOfObjects types t → IsHeld types structs table t → IsPartOfObjects table u
    part_here t u at part held = record {
      known = here_known t u at;
      complete = complete_one types table (IsHere row) (IsHere structs) forms is.table_is h.is_table.table_is t u at part.complete
          (λ s n st bt. held s st n bt (complete_struct types t s part.complete st));
    }

    passed_here : (ps qs : List ℕ) → AllZip (IsHere row) ps qs → All (IsPassed types) ps → All (IsPassed table) qs
    passed_here [] [] zip passed = All-nil (IsPassed table)
    passed_here [] (q ∷ qs) zip passed = absurd zip
    passed_here (p ∷ ps) [] zip passed = absurd zip
    passed_here (p ∷ ps) (q ∷ qs) zip passed =
        All-cons (IsPassed table) q qs (record {
          known = here_known p q zip.0;
          no_struct = sym (holds_one types table (IsHere row) (IsHere structs) forms is.table_is h.is_table.table_is p q zip.0) ∙ (All-head (IsPassed types) p ps passed).no_struct;
        })
        (passed_here ps qs zip.1 (All-tail (IsPassed types) p ps passed))

    is_no_struct : {X : Type 0} {form : CType} (a : ℕ) → struct_of form ≡ struct_of Void → form ≡ Struct a → X
    is_no_struct a none is = absurd (none-some a (sym none ∙ ap struct_of is))

    -- a form that is no struct is as large
    same_form : {form other : CType} → HasForm row structs form other → struct_of form ≡ struct_of Void → IsForm types form → IsForm table other → is_over (form_size types form) ≡ false →
        is_over (form_size table other) ≡ false
    same_form {form} {other} has none ok fit small =
        ap is_over (sym (form_one types table (IsHere row) (IsHere structs) forms is.table_is h.is_table.table_is is.structs h.is_table.structs same_large (made_as row structs has) ok fit
        (λ a b this that one. is_no_struct a none this))) ∙ small

    number_known : (a n : ℕ) → IsHere structs a n → n < length table.members
    number_known a n at = all_read (λ number. number < length table.members) structs a n h.known at

    -- a form of the source may be put
    pub form_fits : {form other : CType} → HasForm row structs form other → IsForm types form → is_over (form_size types form) ≡ false →
        ((u n : ℕ) → form ≡ Array u n → IsHeld types structs table u) → IsForm table other × (is_over (form_size table other) ≡ false)
    form_fits void ok small held = (tt, refl)
    form_fits integer ok small held = (tt, refl)
    form_fits thread ok small held = (tt, refl)
    form_fits mutex ok small held = (tt, refl)
    form_fits condition ok small held = (tt, refl)
    form_fits opaque ok small held = (tt, refl)
    form_fits (pointer {a} {b} at) ok small held = let fit = here_known a b at in (fit, same_form (pointer at) refl ok fit small)
    form_fits (array {a} {b} {n} at) ok small held = let fit = part_here a b at ok (held a n refl) in (fit, same_form (array {n = n} at) refl ok fit small)
    form_fits (struct {a} {b} at) ok small held = let known = number_known a b at in (known, h.is_table.structs.small b known)
    form_fits (function {a} {b} {ps} {qs} {dots} at each) ok small held = let fit = passed_here (a ∷ ps) (b ∷ qs) (at, each) ok in (fit, same_form (function {dots = dots} at each) refl ok fit small)

    -- a type of the source may be put, where the element of an array is complete
    pub type_here : (t : ℕ) (form other : CType) → slice_get types.types t ≡ Some form → HasForm row structs form other → IsElementHeld types structs table t →
        IsForm table other × (is_over (form_size table other) ≡ false)
    type_here t form other at has held =
        let known = slice_get_within types.types t form at in
        let small = subst (λ f. is_over (form_size types f) ≡ false) (ap (λ o. unwrap_or o Void) at) (is.table_is.types t known).small in
        form_fits has (could_put_got types is.table_is t form at) small (λ u n this. held u n (at ∙ ap Some this))

    parts_here : (ms ns : List StructMember) → AllZip (IsMember row) ms ns → All (IsPartOfObjects types) (types_of ms) → All (λ member. IsHeld types structs table member.ty) ms →
        All (λ member. IsPartOfObjects table member.ty) ns
    parts_here [] [] zip parts held = All-nil (λ (member : StructMember). IsPartOfObjects table member.ty)
    parts_here [] (n ∷ ns) zip parts held = absurd zip
    parts_here (m ∷ ms) [] zip parts held = absurd zip
    parts_here (m ∷ ms) (n ∷ ns) zip parts held =
        All-cons (λ (member : StructMember). IsPartOfObjects table member.ty) n ns
        (part_here m.ty n.ty zip.0.1 (All-head (IsPartOfObjects types) m.ty (types_of ms) parts) (All-head (λ (member : StructMember). IsHeld types structs table member.ty) m ms held))
        (parts_here ms ns zip.1 (All-tail (IsPartOfObjects types) m.ty (types_of ms) parts) (All-tail (λ (member : StructMember). IsHeld types structs table member.ty) m ms held))

    -- members of a struct of the source can complete the one that it is
    pub can_give : (s n : ℕ) (members : List StructMember) → IsHere structs s n → is_open types s ≡ false → is_open table n ≡ true →
        All (λ member. IsHeld types structs table member.ty) (members_of types s) → AllZip (IsMember row) (members_of types s) members → CanComplete table n members
    can_give s n members at shut open_ held zip =
        let known = shut_known types s shut in
        let parts = parts_here (members_of types s) members zip (is.structs.parts s known) held in
        let closed = All-map (IsClosed table) (λ member. member.ty) members
        (All-weaker (λ (member : StructMember). IsPartOfObjects table member.ty) (λ (member : StructMember). IsClosed table member.ty)
        (λ member part. closed_complete table member.ty part.complete) members parts) in
        let size = types_size types table (IsHere row) (IsHere structs) forms is.table_is h.is_table.table_is is.structs h.is_table.structs same_large
        (types_of (members_of types s)) (types_of members) (member_zip row (members_of types s) members zip) (members_closed types is.structs s) closed in
        record {
          known = number_known s n at;
          incomplete = open_;
          members = zip_full (IsMember row) (members_of types s) members zip shut;
          parts = parts;
          small = ap is_over (sym size) ∙ is.structs.small s known;
        }

    -- one type more is put
    pub joining_more : (form : CType) (here : ℕ) → slice_get types.types (length row) ≡ Some form → IsPutAt table row structs form here → IsJoining types (row ++ here ∷ []) structs table
    joining_more form here at put = record {
      source = is;
      is_table = h.is_table;
      put = subst (λ forms. ArePutAt table (row ++ here ∷ []) structs forms)
          (take_more types.types (length row) form at ∙ ap (λ n. take n types.types) (sym (length-append row (here ∷ []))))
          (all_put_more table table (longer_same table) structs row here (take (length row) types.types) form h.put put);
      large = h.large;
      known = h.known;
    }

  -- ---- the table grows by members of the source

  module _ (is : IsTypeTable types) (alike : AreAsLarge types structs types structs) (old new : Table) (h : IsJoining types row structs old)
      (gives : GivesMembers types row structs old new) (fits : IsTypeTable new) where
    put_new : ArePutAt new row structs (take (length row) types.types)
    put_new = all_put_later old new gives.longer structs row (take (length row) types.types) h.put

    same_new : (a n : ℕ) → IsHere structs a n → is_open types a ≡ false → is_open new n ≡ false →
        (struct_size types a ≡ struct_size new n) ⊎ HasMembersAs types new (IsHere row) (IsHere structs) a n
    same_new a n at shut closed = of (is_open old n) refl
      where
        of : (now : Bool) → is_open old n ≡ now → (struct_size types a ≡ struct_size new n) ⊎ HasMembersAs types new (IsHere row) (IsHere structs) a n
        of true before =
            let g = gives.given n before closed in
            let full = zip_some (IsMember row) (members_of types g.number) (members_of new n) g.members closed in
            inr (record { there = g.number; size = alike a g.number n at g.here shut full; zip = member_zip row (members_of types g.number) (members_of new n) g.members })
        of false before = inl (sym (h.large a n at shut before) ∙ sym (grown_size old new h.is_table gives.longer n before))

    large_new : AreAsLargeHere types structs new
    large_new a n at shut closed = elim (same_new a n at shut closed) [
      | inl same ↦ sym same
      | inr k ↦ sym (k.size ∙
          types_size types new (IsHere row) (IsHere structs) (λ t u bt. forms_here new put_new t u bt) is.table_is fits.table_is is.structs fits.structs same_new
          (types_of (members_of types k.there)) (types_of (members_of new n)) k.zip (members_closed types is.structs k.there) (members_closed new fits.structs n))
    ]

    pub joining_later : IsJoining types row structs new
    joining_later = record {
      source = is;
      is_table = fits;
      put = put_new;
      large = large_new;
      known = All-weaker (λ number. number < length old.members) (λ number. number < length new.members) (λ number less. let more = gives.longer.structs in omega (arith, less, more)) structs h.known;
    }

-- ---- what stays open

module _ (types : Table) (structs : List ℕ) where
  pub stays_same : (steps : ℕ) (table : Table) → KeepsOpen types structs steps table table
  stays_same steps table a n at shut large open_ = open_

  pub stays_then : (steps : ℕ) (a b c : Table) → KeepsOpen types structs steps a b → KeepsOpen types structs steps b c → KeepsOpen types structs steps a c
  stays_then steps a b c first second x n at shut large open_ = second x n at shut large (first x n at shut large open_)

  pub stays_more : (few steps : ℕ) (old new : Table) → few ≤ steps → KeepsOpen types structs few old new → KeepsOpen types structs steps old new
  stays_more few steps old new less h a n at shut large = h a n at shut (omega (arith, less, large))

  -- a struct gets members, and no larger one
  give_stays : AreAsLarge types structs types structs → (old new : Table) (s here : ℕ) → IsHere structs s here → is_open types s ≡ false →
      ((n : ℕ) → (n ≡ here → ⊥) → is_open new n ≡ is_open old n) → KeepsOpen types structs (suc (struct_size types s).steps) old new
  give_stays alike old new s here at shut others a n bt closed large open_ = elim (cases_eq n here) [
    | inl this ↦
        let same = alike a s here (bt ∙ ap Some this) at closed shut in
        let steps = ap (λ (size : TypeSize). size.steps) same in
        absurd (omega (arith, large, steps))
    | inr apart ↦ others n apart ∙ open_
  ]

-- what holds when a struct of the program got members of one of the source
pub record IsGivenAll (types : Table) (row structs : List ℕ) (s : ℕ) (old new : Table) : Type 0 where
  pub gives : GivesMembers types row structs old new
  pub joining : IsJoining types row structs new
  pub completed : IsCompleted types structs new s
  pub stays : KeepsOpen types structs (suc (struct_size types s).steps) old new

pub give_all : (types : Table) (row structs : List ℕ) → IsTypeTable types → AreAsLarge types structs types structs → (old new : Table) (s here : ℕ) (members : List StructMember) →
    IsJoining types row structs old → IsToComplete types structs old s → All (λ member. IsHeld types structs old member.ty) (members_of types s) → IsHere structs s here →
    AllZip (IsMember row) (members_of types s) members → IsLonger old new → new ≡ with_members old here members → IsTypeTable new → IsGivenAll types row structs s old new
give_all types row structs is alike old new s here members joining open_ held at zip longer value fits =
    let known = shut_known types s open_.shut in
    let can = can_give types row structs is old joining s here members at open_.shut (open_.here here at) held zip in
    let gives = give_gives types structs row old new s here members known at zip can longer value in
    record {
      gives = gives;
      joining = joining_later types row structs is alike old new joining gives fits;
      completed = give_completes types structs row old new s here members known at zip can longer value;
      stays = give_stays types structs alike old new s here at open_.shut (λ n apart. others_stay types structs row old new s here members known at zip can longer value n apart);
    }

module _ (table : Table) where
  steps_grow : (ts : List ℕ) (size : TypeSize) → size.steps ≤ (with_types table size ts).steps
  steps_grow [] size = omega arith
  steps_grow (t ∷ ts) size = let rest = steps_grow ts (with_part size (size_at table t)) in omega (arith, rest)

  each_fewer : (ts : List ℕ) (size : TypeSize) → All (λ u. suc (steps_of table u) ≤ (with_types table size ts).steps) ts
  each_fewer [] size = All-nil (λ u. suc (steps_of table u) ≤ size.steps)
  each_fewer (t ∷ ts) size =
      let rest = steps_grow ts (with_part size (size_at table t)) in
      All-cons (λ u. suc (steps_of table u) ≤ (with_types table (with_part size (size_at table t)) ts).steps) t ts (omega (arith, rest)) (each_fewer ts (with_part size (size_at table t)))

  -- the members of a struct have fewer steps than it
  pub members_fewer : (s : ℕ) → All (λ u. suc (steps_of table u) ≤ (struct_size table s).steps) (types_of (members_of table s))
  members_fewer s =
      let ts = types_of (members_of table s) in
      subst (λ (size : TypeSize). All (λ u. suc (steps_of table u) ≤ size.steps) ts) (sym (fields_size_is table ts)) (each_fewer ts start_size)

-- ---- what a struct holds by value

from_types : (P : ℕ → Type 0) (ms : List StructMember) → All P (types_of ms) → All (λ member. P member.ty) ms
from_types P [] all = All-nil (λ (member : StructMember). P member.ty)
from_types P (m ∷ ms) all = All-cons (λ (member : StructMember). P member.ty) m ms (All-head P m.ty (types_of ms) all) (from_types P ms (All-tail P m.ty (types_of ms) all))

module _ (types : Table) where
  -- the types of its members came before
  pub done_numbers : (count s : ℕ) → IsDoneBefore types count s → is_open types s ≡ false → All (λ member. member.ty < count) (members_of types s)
  done_numbers count s h shut =
      let before = h.before in
      from_types (λ u. u < count) (members_of types s)
      (All-weaker (λ u. u < h.done s) (λ u. u < count) (λ u less. omega (arith, less, before)) (types_of (members_of types s)) (h.are.members s shut))

  type_at_member : (s i : ℕ) (member : StructMember) → slice_get (members_of types s) i ≡ Some member → slice_get (types_of (members_of types s)) i ≡ Some member.ty
  type_at_member s i member at = slice_get-map (λ member. member.ty) (members_of types s) i ∙ ap (option_map (λ member. member.ty)) at

  -- and a struct among them was complete
  pub inside_before : (count s i r : ℕ) (member : StructMember) → slice_get (members_of types s) i ≡ Some member → slice_get types.types member.ty ≡ Some (Struct r) →
      is_open types s ≡ false → IsDoneBefore types count s → IsDoneBefore types count r
  inside_before count s i r member at bt shut h =
      let inside = all_read (IsDoneBy types h.done (h.done s)) (types_of (members_of types s)) i member.ty (h.are.inside s shut) (type_at_member s i member at) r bt in
      let before = h.before in
      record { done = h.done; are = h.are; before = omega (arith, inside, before) }

  -- it is smaller
  pub inside_fewer : IsTypeTable types → (s i r : ℕ) (member : StructMember) → slice_get (members_of types s) i ≡ Some member → slice_get types.types member.ty ≡ Some (Struct r) →
      suc (struct_size types r).steps ≤ (struct_size types s).steps
  inside_fewer is s i r member at bt =
      let few = all_read (λ u. suc (steps_of types u) ≤ (struct_size types s).steps) (types_of (members_of types s)) i member.ty (members_fewer types s) (type_at_member s i member at) in
      let steps = ap (λ (size : TypeSize). size.steps) (size_is types is.table_is member.ty (Struct r) bt) in
      omega (arith, few, steps)

  -- the struct of which a type is an array, and each one when all types are there
  pub element_before : IsTypeTable types → (t u n s count : ℕ) → slice_get types.types t ≡ Some (Array u n) → slice_get types.types u ≡ Some (Struct s) → count ≡ t → IsDoneBefore types count s
  element_before is t u n s count at bt same =
      let before = is.ordered.elements t u n at s bt in
      record { done = is.ordered.done; are = is.ordered.are; before = omega (arith, before, same) }

  pub all_before : IsTypeTable types → (s count : ℕ) → count ≡ length types.types → is_open types s ≡ false → IsDoneBefore types count s
  all_before is s count same shut =
      let few = is.ordered.are.few s shut in
      record { done = is.ordered.done; are = is.ordered.are; before = omega (arith, few, same) }

  module _ (structs : List ℕ) where
    pub held_later : (old new : Table) → IsLonger old new → (u : ℕ) → IsHeld types structs old u → IsHeld types structs new u
    held_later old new longer u h s at = completed_later types structs old new longer s (h s at)

    pub all_held_later : (old new : Table) → IsLonger old new → (ms : List StructMember) → All (λ member. IsHeld types structs old member.ty) ms → All (λ member. IsHeld types structs new member.ty) ms
    all_held_later old new longer ms all =
        All-weaker (λ (member : StructMember). IsHeld types structs old member.ty) (λ (member : StructMember). IsHeld types structs new member.ty)
        (λ member h. held_later old new longer member.ty h) ms all

    pub held_struct : (table : Table) (u s : ℕ) → slice_get types.types u ≡ Some (Struct s) → IsCompleted types structs table s → IsHeld types structs table u
    held_struct table u s at h r bt = subst (IsCompleted types structs table) (same_number types u s r at bt) h

    pub held_element : (table : Table) (t u n : ℕ) → slice_get types.types t ≡ Some (Array u n) → IsHeld types structs table u → IsElementHeld types structs table t
    held_element table t u n at h v m bt = subst (IsHeld types structs table) (same_element types t u n v m at bt) h

    -- what stays open is still to be completed
    pub still_open : (old new : Table) (s : ℕ) → IsToComplete types structs old s → KeepsOpen types structs (struct_size types s).steps old new → IsToComplete types structs new s
    still_open old new s h stays = record { shut = h.shut; here = λ n at. stays s n at h.shut (omega arith) (h.here n at) }

-- ---- all sources

module _ (units : Units) (structs : List (List ℕ)) where
  pub none_large : (table : Table) → AreOpen table → AreAllAsLarge units structs table
  none_large table open_ s unit here at here_at a n bt shut closed = absurd (never_both (is_open table n) (open_ n) closed)

  -- where the structs of one source are as large, those of each are
  pub all_large_later : (count : ℕ) → AreNumbers units structs count → HaveTypeTables units → (s : ℕ) (unit : TypedUnit) (row here : List ℕ) → slice_get units s ≡ Some unit →
      slice_get structs s ≡ Some here →
      (old new : Table) → IsTypeTable old → GivesMembers unit.types row here old new → AreAsLargeHere unit.types here new → AreAllAsLarge units structs old → AreAllAsLarge units structs new
  all_large_later count are tables s unit row here at here_at old new is gives large h z other there bt there_at b n bn shut closed = of (is_open old n) refl
    where
      of : (now : Bool) → is_open old n ≡ now → struct_size new n ≡ struct_size other.types b
      of true before =
          let g = gives.given n before closed in
          let full = zip_some (IsMember row) (members_of unit.types g.number) (members_of new n) g.members closed in
          large g.number n g.here full closed ∙ numbers_as_large units structs count are tables s z unit other here there at bt here_at there_at g.number b n g.here bn full shut
      of false before = grown_size old new is gives.longer n before ∙ h z other there bt there_at b n bn shut before
