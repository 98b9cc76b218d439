-- Structs that are one in the program are as large in their sources.
use Rattle.std.proofs.Common.{◌≡◌, ◌∙◌, ◌⊎◌, ◌<◌, inl, inr, ℕ, Bool, true, false, List, [], ◌∷◌, Some, refl, sym, ap, subst, length}
use Rattle.std.proofs.lemmas.Bool.{false≢true}
use Rattle.std.proofs.lemmas.Option.{same_Some}
use Rattle.std.specs.List.{slice_get, AllZip}
use Rattle.std.specs.Option.{option_map}
use Rattle.std.specs.Prelude.{unwrap_or}
use Rattle.lk_link.specs.Pairs.{IsAmong}
use Rattle.lk_link.specs.Sources.{IsStruct, Units}
use Rattle.lk_link.specs.Structs.{AreKept, AreOneBy, AreOneMember, Becomes, HasNoDifference, members_in, struct_in, types_in}
use Rattle.lk_link.specs.Structs.Becomes.{completed, itself}
use Rattle.lk_link.specs.Types.{AreAllOne, AreOne}
use Rattle.lk_link.specs.Types.AreAllOne.{none, more}
use Rattle.lk_link.specs.Types.AreOne.{plain, pointers, arrays, structs, functions}
use Rattle.lk_link.specs.declared.place.SizeRule.TheVariants.{Same}
use Rattle.lk_link.specs.declared.place.StructOf.{StructOf}
use Rattle.lk_link.specs.declared.place.StructPair.{StructPair}
use Rattle.lk_typed.specs.declared.unit.TypedUnit.{TypedUnit}
use Rattle.lk_types.specs.Building.{types_of}
use Rattle.lk_types.specs.Table.{is_empty, is_open, members_of}
use Rattle.lk_types.specs.declared.c_type.CType.{CType}
use Rattle.lk_types.specs.declared.c_type.CType.TheVariants.{Array, Function, Pointer, Struct}
use Rattle.lk_types.specs.declared.member.StructMember.{StructMember}
use Rattle.lk_types.specs.declared.size.TypeSize.{TypeSize}
use Rattle.lk_types.proofs.SizeLemmas.{all_read}
use Rattle.lk_join.specs.Classes.{AreLinked, AreNumbers, AreOneStruct, IsInProgram}
use Rattle.lk_join.specs.Classes.AreOneStruct.{next, same}
use Rattle.lk_join.specs.Large.{AreAsLarge, HaveTypeTables, IsTypeTable, struct_size}
use Rattle.lk_join.proofs.Alike.{HasMembersAs, IsMadeAs, IsOnePair, members_closed, types_size}
use Rattle.lk_join.proofs.Alike.IsMadeAs.{as_array, as_function, as_plain, as_pointer, as_struct}
use Rattle.lk_join.proofs.Chains.{one_in_program}
use Rattle.lk_join.proofs.Members.{complete_known}

module _ (units : Units) where
  -- a complete struct is itself in the program
  itself_there : (s r : StructOf) → Becomes units s r → is_empty (members_in units s) ≡ false → r ≡ s
  itself_there s r (completed h) complete = absurd (false≢true (sym complete ∙ h.incomplete))
  itself_there s r (itself none_) complete = refl

  types_at : (s : ℕ) (unit : TypedUnit) → slice_get units s ≡ Some unit → types_in units s ≡ unit.types.types
  types_at s unit at = ap (λ o. unwrap_or (option_map (λ unit. unit.types.types) o) []) at

  members_at : (s : StructOf) (unit : TypedUnit) → slice_get units s.source ≡ Some unit → members_in units s ≡ members_of unit.types s.number
  members_at s unit at = ap (λ o. unwrap_or (option_map (λ unit. members_of unit.types s.number) o) []) at

  -- two sources, whose types are compared
  module _ (pairs : List StructPair) (kept : AreKept units pairs) (s z : ℕ) (unit other : TypedUnit) (at : slice_get units s ≡ Some unit) (bt : slice_get units z ≡ Some other) where
    abbrev One : ℕ → ℕ → Type 0
    One t u = AreOne Same (AreOneBy units pairs s z) unit.types.types other.types.types t u

    one_here : {t u : ℕ} → AreOne Same (AreOneBy units pairs s z) (types_in units s) (types_in units z) t u → One t u
    one_here {t} {u} h =
        subst (λ ts. AreOne Same (AreOneBy units pairs s z) ts other.types.types t u) (types_at s unit at)
        (subst (λ us. AreOne Same (AreOneBy units pairs s z) (types_in units s) us t u) (types_at z other bt) h)

    all_zip : {ps qs : List ℕ} → AreAllOne Same (AreOneBy units pairs s z) unit.types.types other.types.types ps qs → AllZip One ps qs
    all_zip none = tt
    all_zip (more one all) = (one, all_zip all)

    forms : (t u : ℕ) → One t u → IsOnePair unit.types other.types One (AreOneBy units pairs s z) t u
    forms t u (plain {form = form} ft gt is) = record { form = form; other = form; at = ft; bt = gt; made = as_plain is }
    forms t u (pointers {a = a} {b = b} ft gt one) = record { form = Pointer a; other = Pointer b; at = ft; bt = gt; made = as_pointer one }
    forms t u (arrays {a = a} {b = b} {n = n} {m = m} ft gt sizes one) = record {
      form = Array a n;
      other = Array b m;
      at = ft;
      bt = gt;
      made = subst (λ k. IsMadeAs One (AreOneBy units pairs s z) (Array a n) (Array b k)) sizes (as_array one);
    }
    forms t u (structs {a = a} {b = b} ft gt one) = record { form = Struct a; other = Struct b; at = ft; bt = gt; made = as_struct one }
    forms t u (functions {a = a} {b = b} {ps = ps} {qs = qs} {dots = dots} ft gt one all) = record {
      form = Function a ps dots;
      other = Function b qs dots;
      at = ft;
      bt = gt;
      made = as_function one (all_zip all);
    }

    member_types : (as_ bs : List StructMember) → AllZip (AreOneMember units pairs s z) as_ bs → AllZip One (types_of as_) (types_of bs)
    member_types [] [] zip = tt
    member_types [] (b ∷ bs) zip = absurd zip
    member_types (a ∷ as_) [] zip = absurd zip
    member_types (a ∷ as_) (b ∷ bs) zip = (one_here zip.0.1, member_types as_ bs zip.1)

    -- the members of a pair are one, one by one
    pair_types : (a b : ℕ) → IsAmong pairs (record { first = struct_in s a; second = struct_in z b }) → AllZip One (types_of (members_of unit.types a)) (types_of (members_of other.types b))
    pair_types a b among =
        let alike = all_read (HasNoDifference units pairs) pairs among.0 (record { first = struct_in s a; second = struct_in z b }) kept among.1 in
        subst (λ ms. AllZip One (types_of ms) (types_of (members_of other.types b))) (members_at (struct_in s a) unit at)
        (subst (λ ms. AllZip One (types_of (members_in units (struct_in s a))) (types_of ms)) (members_at (struct_in z b) other bt)
        (member_types (members_in units (struct_in s a)) (members_in units (struct_in z b)) alike.members))

    one_struct : (a b : ℕ) → struct_in s a ≡ struct_in z b → struct_size unit.types a ≡ struct_size other.types b
    one_struct a b is =
        let unit_is = same_Some unit other (sym at ∙ ap (slice_get units) (ap (λ (x : StructOf). x.source) is) ∙ bt) in
        ap (λ (u : TypedUnit). struct_size u.types a) unit_is ∙ ap (struct_size other.types) (ap (λ (x : StructOf). x.number) is)

    same_struct : (a b : ℕ) → AreOneBy units pairs s z a b → is_open unit.types a ≡ false → is_open other.types b ≡ false →
        (struct_size unit.types a ≡ struct_size other.types b) ⊎ HasMembersAs unit.types other.types One (AreOneBy units pairs s z) a b
    same_struct a b by shut closed =
        let first = itself_there (struct_in s a) by.0.first by.1 (ap is_empty (members_at (struct_in s a) unit at) ∙ shut) in
        let second = itself_there (struct_in z b) by.0.second by.2 (ap is_empty (members_at (struct_in z b) other bt) ∙ closed) in
        elim by.3 [
          | inl is ↦ inl (one_struct a b (sym first ∙ is ∙ second))
          | inr among ↦ inr (record {
            there = a;
            size = refl;
            zip = pair_types a b
                (subst (λ x. IsAmong pairs (record { first = struct_in s a; second = x })) second (subst (λ x. IsAmong pairs (record { first = x; second = by.0.second })) first among));
          })
        ]

    pub pair_size : IsTypeTable unit.types → IsTypeTable other.types → (a b : ℕ) → IsAmong pairs (record { first = struct_in s a; second = struct_in z b }) →
        struct_size unit.types a ≡ struct_size other.types b
    pair_size here there a b among =
        types_size unit.types other.types One (AreOneBy units pairs s z) forms here.table_is there.table_is here.structs there.structs same_struct
        (types_of (members_of unit.types a)) (types_of (members_of other.types b)) (pair_types a b among)
        (members_closed unit.types here.structs a) (members_closed other.types there.structs b)

  module _ (sized : HaveTypeTables units) (size : TypeSize) where
    abbrev HasSize : StructOf → Type 0
    HasSize s = (unit : TypedUnit) → slice_get units s.source ≡ Some unit → struct_size unit.types s.number ≡ size

    by_link : (q s : StructOf) → IsStruct units q → AreLinked units q s → HasSize q → HasSize s
    by_link q s is (inl (inl one)) h unit at = subst HasSize one h unit at
    by_link q s is (inl (inr kept)) h unit at =
        sym (pair_size kept.0 kept.1 q.source s.source is.unit unit is.at at (all_read (λ (u : TypedUnit). IsTypeTable u.types) units q.source is.unit sized is.at)
        (all_read (λ (u : TypedUnit). IsTypeTable u.types) units s.source unit sized at) q.number s.number kept.2) ∙ h is.unit is.at
    by_link q s is (inr (inl one)) h unit at = subst HasSize (sym one) h unit at
    by_link q s is (inr (inr kept)) h unit at =
        pair_size kept.0 kept.1 s.source q.source unit is.unit at is.at (all_read (λ (u : TypedUnit). IsTypeTable u.types) units s.source unit sized at)
        (all_read (λ (u : TypedUnit). IsTypeTable u.types) units q.source is.unit sized is.at) s.number q.number kept.2 ∙ h is.unit is.at

    along : {r s : StructOf} → IsInProgram units r → AreOneStruct units r s → HasSize r → HasSize s
    along first same h = h
    along first (next {q = q} {s = s} one is linked) h = by_link q s (one_in_program units first one).known linked (along first one h)

  -- two structs with one number are as large
  pub numbers_as_large : (rows : List (List ℕ)) (count : ℕ) → AreNumbers units rows count → HaveTypeTables units → (s z : ℕ) (unit other : TypedUnit) (here there : List ℕ) →
      slice_get units s ≡ Some unit → slice_get units z ≡ Some other → slice_get rows s ≡ Some here → slice_get rows z ≡ Some there → AreAsLarge unit.types here other.types there
  numbers_as_large rows count are sized s z unit other here there at bt here_at there_at a b n an bn shut closed =
      let full = ap is_empty (members_at (struct_in s a) unit at) ∙ shut in
      let fits = ap is_empty (members_at (struct_in z b) other bt) ∙ closed in
      let first : Becomes units (struct_in s a) (struct_in s a) = itself (λ u k. false≢true (sym full ∙ k.incomplete)) in
      let second : Becomes units (struct_in z b) (struct_in z b) = itself (λ u k. false≢true (sym fits ∙ k.incomplete)) in
      let chain = (are.one (struct_in s a) (struct_in z b) (struct_in s a) (struct_in z b) n n (here, here_at, an) (there, there_at, bn) first second).0 refl in
      sym (along sized (struct_size unit.types a) (record { known = complete_known units (struct_in s a) full; itself_there = first }) chain
      (λ u ut. ap (λ (v : TypedUnit). struct_size v.types a) (same_Some u unit (sym ut ∙ at))) other bt)
