-- What a struct is in the program is one struct; types compared by what their structs are there are compared in the program.
use Rattle.std.proofs.Common.{◌≡◌, ◌∙◌, ◌⊎◌, inl, inr, ◌<◌, ◌≤◌, ℕ, List, [], ◌∷◌, Some, None, refl, sym, ap, subst, length, get_or, arith}
use Rattle.std.specs.Prelude.{unwrap_or}
use Rattle.std.specs.Option.{option_map}
use Rattle.std.proofs.lemmas.Bool.{cases_lt}
use Rattle.std.proofs.lemmas.Option.{same_Some, slice_get_within, slice_get-get_or}
use Rattle.std.specs.List.{slice_get, AllZip}
use Rattle.lk_types.specs.Building.{IsTable, IsMadeOf}
use Rattle.lk_types.specs.Table.{Table, type_at}
use Rattle.lk_types.specs.declared.c_type.CType.{CType}
use Rattle.lk_types.specs.declared.c_type.CType.TheVariants.{Void, Struct}
use Rattle.lk_types.specs.declared.member.StructMember.{StructMember}
use Rattle.lk_typed.specs.declared.unit.TypedUnit.{TypedUnit}
use Rattle.lk_link.specs.Comparing.{SideTable, AreOnePair, AreOneHere, AreOneMembersHere}
use Rattle.lk_link.specs.Sources.{Units, ComesBefore}
use Rattle.lk_link.specs.Structs.{types_in, IsOutside, IsFirstComplete, IsCompletedBy, Becomes, AreResolved, AreOneBy, AreOneTypes, AreOneMember, struct_in}
use Rattle.lk_link.specs.Structs.Becomes.{completed, itself}
use Rattle.lk_link.specs.Types.{AreOne, AreAllOne}
use Rattle.lk_link.specs.Types.AreOne.{plain, pointers, arrays, structs, functions}
use Rattle.lk_link.specs.Types.AreAllOne.{none, more}
use Rattle.lk_link.specs.declared.place.SizeRule.{SizeRule}
use Rattle.lk_link.specs.declared.place.SizeRule.TheVariants.{Same}
use Rattle.lk_link.specs.declared.place.StructOf.{StructOf}
use Rattle.lk_link.specs.declared.place.StructPair.{StructPair}

-- two places of which neither comes before the other are one
pub one_place : (a b : StructOf) → (ComesBefore a.source a.number b.source b.number → ⊥) → (ComesBefore b.source b.number a.source a.number → ⊥) → a ≡ b
one_place a b before after = let s = sources (cases_lt a.source b.source) (cases_lt b.source a.source) in let n = numbers s (cases_lt a.number b.number) (cases_lt b.number a.number) in (λ i. record { source = s i; number = n i })
  where
    sources : (a.source < b.source) ⊎ (b.source ≤ a.source) → (b.source < a.source) ⊎ (a.source ≤ b.source) → a.source ≡ b.source
    sources (inl less) r = absurd (before (inl less))
    sources (inr more_) (inl less) = absurd (after (inl less))
    sources (inr more_) (inr less) = omega arith

    numbers : a.source ≡ b.source → (a.number < b.number) ⊎ (b.number ≤ a.number) → (b.number < a.number) ⊎ (a.number ≤ b.number) → a.number ≡ b.number
    numbers s (inl less) r = absurd (before (inr (s, less)))
    numbers s (inr more_) (inl less) = absurd (after (inr (sym s, less)))
    numbers s (inr more_) (inr less) = omega arith

module _ (units : Units) where
  pub outside_name : (s : StructOf) (name other : List ℕ) → IsOutside units s name → IsOutside units s other → name ≡ other
  outside_name s name other at bt = same_Some name other (ap (λ o. unwrap_or (option_map (λ tag. tag.tag) o) None) (sym at ∙ bt))

  first_same : (t u : StructOf) (name : List ℕ) → IsFirstComplete units t name → IsFirstComplete units u name → t ≡ u
  first_same t u name h k = one_place t u (λ before. k.first t h.complete before) (λ before. h.first u k.complete before)

  completed_same : (s t u : StructOf) → IsCompletedBy units s t → IsCompletedBy units s u → t ≡ u
  completed_same s t u h k = first_same t u k.name (subst (IsFirstComplete units t) (outside_name s h.name k.name h.outside k.outside) h.by) k.by

  pub becomes_same : {s t u : StructOf} → Becomes units s t → Becomes units s u → t ≡ u
  becomes_same {s} {t} {u} (completed h) (completed k) = completed_same s t u h k
  becomes_same {s} {t} (completed h) (itself none_) = absurd (none_ t h)
  becomes_same {s} {t} {u} (itself none_) (completed k) = absurd (none_ u k)
  becomes_same (itself none_) (itself also) = refl

-- the struct of a type is in its table
pub struct_known : (table : Table) → IsTable table → (t a : ℕ) → slice_get table.types t ≡ Some (Struct a) → a < length table.members
struct_known table is t a at =
    let form : type_at table t ≡ Struct a = ap (λ o. unwrap_or o Void) at in
    (subst (IsMadeOf table t) form ((is.types t (slice_get_within table.types t (Struct a) at)).made_of)).0

-- types that are one where structs are, are one where structs are in another way
module _ (rule : SizeRule) (One Other : ℕ → ℕ → Type 0) (ts us : List CType)
    (there : (t u a b : ℕ) → slice_get ts t ≡ Some (Struct a) → slice_get us u ≡ Some (Struct b) → One a b → Other a b) where
  mutual
    pub one_map : {t u : ℕ} → AreOne rule One ts us t u → AreOne rule Other ts us t u
    one_map (plain at bt is) = plain at bt is
    one_map (pointers at bt h) = pointers at bt (one_map h)
    one_map (arrays at bt sizes h) = arrays at bt sizes (one_map h)
    one_map {t} {u} (structs {a = a} {b = b} at bt h) = structs at bt (there t u a b at bt h)
    one_map (functions at bt h hs) = functions at bt (one_map h) (all_map hs)

    pub all_map : {ps qs : List ℕ} → AreAllOne rule One ts us ps qs → AreAllOne rule Other ts us ps qs
    all_map none = none
    all_map (more h hs) = more (one_map h) (all_map hs)

-- a source's table and row
abbrev pub side : TypedUnit → List StructOf → SideTable
side unit row = record { types = unit.types; becomes = row }

module _ (units : Units) (rows : List (List StructOf)) (resolved : AreResolved units rows) (s z : ℕ) (unit other : TypedUnit) (at : slice_get units s ≡ Some unit) (bt : slice_get units z ≡ Some other)
    (row others : List StructOf) (rat : slice_get rows s ≡ Some row) (rbt : slice_get rows z ≡ Some others) (is : IsTable unit.types) (is_other : IsTable other.types) where
  types_are : (x : ℕ) (u : TypedUnit) → slice_get units x ≡ Some u → types_in units x ≡ u.types.types
  types_are x u there = ap (λ o. unwrap_or (option_map (λ unit. unit.types.types) o) []) there

  module _ (ps : List StructPair) where
    pair_there : (a b : ℕ) → AreOnePair (side unit row) (side other others) ps a b → AreOneBy units ps s z a b
    pair_there a b h = (h.0, ((resolved.each s row rat).each a h.0.first h.1).1, ((resolved.each z others rbt).each b h.0.second h.2).1, h.3)

    at_row : (x a : ℕ) (u : TypedUnit) (r : List StructOf) (q : StructOf) → slice_get units x ≡ Some u → slice_get rows x ≡ Some r → a < length u.types.members → Becomes units (struct_in x a) q → slice_get r a ≡ Some q
    at_row x a u r q uat rowat known becomes =
        let long = (resolved.each x r rowat).whole u uat in
        let got = slice_get-get_or r a q (omega (arith, known, long)) in
        got ∙ ap Some (becomes_same units (((resolved.each x r rowat).each a (get_or r a q) got).1) becomes)

    pair_back : (a b : ℕ) → a < length unit.types.members → b < length other.types.members → AreOneBy units ps s z a b → AreOnePair (side unit row) (side other others) ps a b
    pair_back a b known known_other h = (h.0, at_row s a unit row h.0.first at rat known h.1, at_row z b other others h.0.second bt rbt known_other h.2, h.3)

    module _ (rule : SizeRule) where
      pub types_there : (t u : ℕ) → AreOneHere (side unit row) (side other others) ps rule t u →
          AreOneTypes units ps rule (record { source = s; number = t }) (record { source = z; number = u })
      types_there t u h =
          subst (λ ts. AreOne rule (AreOneBy units ps s z) ts (types_in units z) t u) (sym (types_are s unit at))
          (subst (λ us. AreOne rule (AreOneBy units ps s z) unit.types.types us t u) (sym (types_are z other bt))
          (one_map rule (AreOnePair (side unit row) (side other others) ps) (AreOneBy units ps s z) unit.types.types other.types.types (λ t u a b at_ bt_ h. pair_there a b h) h))

      pub types_back : (t u : ℕ) → AreOneTypes units ps rule (record { source = s; number = t }) (record { source = z; number = u }) →
          AreOneHere (side unit row) (side other others) ps rule t u
      types_back t u h =
          one_map rule (AreOneBy units ps s z) (AreOnePair (side unit row) (side other others) ps) unit.types.types other.types.types
          (λ t u a b at_ bt_ h. pair_back a b (struct_known unit.types is t a at_) (struct_known other.types is_other u b bt_) h)
          (subst (λ us. AreOne rule (AreOneBy units ps s z) unit.types.types us t u) (types_are z other bt)
          (subst (λ ts. AreOne rule (AreOneBy units ps s z) ts (types_in units z) t u) (types_are s unit at) h))

    pub members_there : (as_ bs : List StructMember) → AreOneMembersHere (side unit row) (side other others) ps as_ bs → AllZip (AreOneMember units ps s z) as_ bs
    members_there [] [] h = tt
    members_there [] (b ∷ bs) h = absurd h
    members_there (a ∷ as_) [] h = absurd h
    members_there (a ∷ as_) (b ∷ bs) h = ((h.0.0, types_there Same a.ty b.ty h.0.1), members_there as_ bs h.1)

    pub members_back : (as_ bs : List StructMember) → AllZip (AreOneMember units ps s z) as_ bs → AreOneMembersHere (side unit row) (side other others) ps as_ bs
    members_back [] [] h = tt
    members_back [] (b ∷ bs) h = absurd h
    members_back (a ∷ as_) [] h = absurd h
    members_back (a ∷ as_) (b ∷ bs) h = ((h.0.0, types_back Same a.ty b.ty h.0.1), members_back as_ bs h.1)
