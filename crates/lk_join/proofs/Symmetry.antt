-- Where a comparison of two structs finds no difference, that of the second with the first finds none.
use Rattle.std.proofs.Common.{◌∙◌, inl, inr, ℕ, List, [], ◌∷◌, map, get_or, sym, ap}
use Rattle.std.proofs.lemmas.List.Elements.{All-map}
use Rattle.std.proofs.lemmas.Option.{slice_get-map}
use Rattle.std.specs.Option.{option_map}
use Rattle.std.specs.List.{AllZip}
use Rattle.lk_link.specs.Pairs.{IsAmong}
use Rattle.lk_link.specs.Sources.{Units}
use Rattle.lk_link.specs.Structs.{AreKept, AreOneBy, AreOneMember, HasNoDifference, members_in, types_in}
use Rattle.lk_link.specs.Types.{AreOne, AreAllOne}
use Rattle.lk_link.specs.Types.AreOne.{plain, pointers, arrays, structs, functions}
use Rattle.lk_link.specs.Types.AreAllOne.{none, more}
use Rattle.lk_link.specs.declared.place.SizeRule.TheVariants.{Same}
use Rattle.lk_link.specs.declared.place.StructPair.{StructPair}
use Rattle.lk_types.specs.declared.c_type.CType.{CType}
use Rattle.lk_types.specs.declared.member.StructMember.{StructMember}

abbrev pub turned : StructPair → StructPair
turned pair = record { first = pair.second; second = pair.first }

turned_among : (pairs : List StructPair) (pair : StructPair) → IsAmong pairs pair → IsAmong (map turned pairs) (turned pair)
turned_among pairs pair among = (among.0, slice_get-map turned pairs among.0 ∙ ap (option_map turned) among.1)

module _ (One Other : ℕ → ℕ → Type 0) (ts us : List CType) (turn : (a b : ℕ) → One a b → Other b a) where
  mutual
    one_turned : {t u : ℕ} → AreOne Same One ts us t u → AreOne Same Other us ts u t
    one_turned (plain at bt is) = plain bt at is
    one_turned (pointers at bt h) = pointers bt at (one_turned h)
    one_turned (arrays at bt sizes h) = arrays bt at (sym sizes) (one_turned h)
    one_turned (structs {a = a} {b = b} at bt h) = structs bt at (turn a b h)
    one_turned (functions at bt h hs) = functions bt at (one_turned h) (all_turned hs)

    all_turned : {ps qs : List ℕ} → AreAllOne Same One ts us ps qs → AreAllOne Same Other us ts qs ps
    all_turned none = none
    all_turned (more h hs) = more (one_turned h) (all_turned hs)

module _ (units : Units) (pairs : List StructPair) where
  by_turned : (s z a b : ℕ) → AreOneBy units pairs s z a b → AreOneBy units (map turned pairs) z s b a
  by_turned s z a b h = (
    turned h.0,
    h.2,
    h.1,
    elim h.3 [ inl same ↦ inl (sym same) | inr among ↦ inr (turned_among pairs h.0 among) ],
  )

  members_turned : (s z : ℕ) (as_ bs : List StructMember) → AllZip (AreOneMember units pairs s z) as_ bs → AllZip (AreOneMember units (map turned pairs) z s) bs as_
  members_turned s z [] [] h = tt
  members_turned s z [] (b ∷ bs) h = absurd h
  members_turned s z (a ∷ as_) [] h = absurd h
  members_turned s z (a ∷ as_) (b ∷ bs) h = (
    (sym h.0.0, one_turned (AreOneBy units pairs s z) (AreOneBy units (map turned pairs) z s) (types_in units s) (types_in units z) (by_turned s z) h.0.1),
    members_turned s z as_ bs h.1,
  )

  difference_turned : (pair : StructPair) → HasNoDifference units pairs pair → HasNoDifference units (map turned pairs) (turned pair)
  difference_turned pair h = record {
    apart = λ same. h.apart (sym same);
    tags = sym h.tags;
    members = members_turned pair.first.source pair.second.source (members_in units pair.first) (members_in units pair.second) h.members;
  }

-- two structs of a list that its own comparisons keep
abbrev pub IsKeptPair : Units → StructPair → Type 0
IsKeptPair units pair = (pairs : List StructPair) × AreKept units pairs × IsAmong pairs pair

pub kept_turned : (units : Units) (pair : StructPair) → IsKeptPair units pair → IsKeptPair units (turned pair)
kept_turned units pair h = (
  map turned h.0,
  All-map (HasNoDifference units (map turned h.0)) turned h.0 (λ k d less. difference_turned units h.0 (get_or h.0 k d) (h.1 k d less)),
  turned_among h.0 pair h.2,
)
