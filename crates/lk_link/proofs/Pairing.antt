-- What was asked of two tables, asked of two sources.
use Rattle.std.proofs.Common.{◌≡◌, ◌∙◌, ◌↔◌, inl, inr, ℕ, ◌<◌, length, All, Bool, true, false, List, [], Some, refl, sym, ap, subst, IsTrue}
use Rattle.std.proofs.lemmas.Bool.{false≢true}
use Rattle.std.proofs.lemmas.List.Elements.{All-map}
use Rattle.std.proofs.lemmas.Option.{none-some, same_Some}
use Rattle.std.specs.Prelude.{unwrap_or}
use Rattle.std.specs.Option.{option_map}
use Rattle.std.specs.List.{slice_get, AllZip}
use Rattle.lk_types.specs.Building.{types_of}
use Rattle.lk_types.specs.Table.{IsKnown, members_of}
use Rattle.lk_types.proofs.SizeLemmas.{all_read}
use Rattle.lk_types.specs.declared.member.StructMember.{StructMember}
use Rattle.lk_typed.specs.declared.unit.TypedUnit.{TypedUnit}
use Rattle.lk_link.specs.Comparing.{SideTable, IsOfSides, IsAnsweredHere, AreOneHere, AreOneMembersHere}
use Rattle.lk_link.specs.Pairs.{IsAmong, AreAmong, IsAnswered}
use Rattle.lk_link.specs.Sources.{Units, IsSource, AreSources, IsStruct, IsTypeOf}
use Rattle.lk_link.specs.Structs.{members_in, tag_name, AreResolved, IsSideOf, IsPair, HasNoDifference, AreOneMember, AreOneTypes, IsSettled, IsNoDifference, AreDeclaredAlike}
use Rattle.lk_link.specs.declared.place.SizeRule.{SizeRule}
use Rattle.lk_link.specs.declared.place.SizeRule.TheVariants.{SameOrAbsent}
use Rattle.lk_link.specs.declared.place.StructOf.{StructOf}
use Rattle.lk_link.specs.declared.place.StructPair.{StructPair}
use Rattle.lk_link.specs.declared.place.TypeOf.{TypeOf}
use Rattle.lk_link.proofs.Answering.{answered_same, answered_weaker, longer_among}
use Rattle.lk_link.proofs.Becoming.{side, types_there, types_back, members_there, members_back}

module _ (units : Units) (rows : List (List StructOf)) (source : ℕ) (f : SideTable) (h : IsSideOf units rows source f) where
  same_unit : (unit : TypedUnit) → slice_get units source ≡ Some unit → h.unit ≡ unit
  same_unit unit at = same_Some h.unit unit (sym h.at ∙ at)

  pub side_struct : (r : StructOf) → r.source ≡ source → IsStruct units r → r.number < length f.types.members
  side_struct r here k =
      subst (λ f. r.number < length f.types.members) (sym h.is)
      (subst (λ u. r.number < length u.types.members) (sym (same_unit k.unit (subst (λ n. slice_get units n ≡ Some k.unit) here k.at))) k.known)

  pub side_type : (t : TypeOf) → t.source ≡ source → IsTypeOf units t → IsKnown f.types t.number
  side_type t here k =
      subst (λ f. IsKnown f.types t.number) (sym h.is)
      (subst (λ u. IsKnown u.types t.number) (sym (same_unit k.unit (subst (λ n. slice_get units n ≡ Some k.unit) here k.at))) k.known)

  pub side_members : AreSources units → (number : ℕ) (members : List StructMember) → members ≡ members_of f.types number → number < length f.types.members → All (IsKnown f.types) (types_of members)
  side_members sources number members are known =
      subst (λ ms. All (IsKnown f.types) (types_of ms)) (sym are)
      (subst (λ f. All (IsKnown f.types) (types_of (members_of f.types number))) (sym h.is)
      (All-map (IsKnown h.unit.types) (λ member. member.ty) (members_of h.unit.types number) ((all_read IsSource units source h.unit sources h.at).members number (subst (λ f. number < length f.types.members) h.is known))))

  pub side_members_in : (r : StructOf) → r.source ≡ source → members_of f.types r.number ≡ members_in units r
  side_members_in r here =
      ap (λ f. members_of f.types r.number) h.is ∙ sym (ap (λ o. unwrap_or (option_map (λ unit. members_of unit.types r.number) o) []) (ap (slice_get units) here ∙ h.at))

module _ (units : Units) (rows : List (List StructOf)) (resolved : AreResolved units rows) (s z : ℕ) (f g : SideTable) (h : IsSideOf units rows s f) (k : IsSideOf units rows z g) where
  of_sources : (pair : StructPair) → IsOfSides (side h.unit h.row) (side k.unit k.row) pair → IsPair units pair
  of_sources pair of = record { first = ((resolved.each s h.row h.row_at).each of.a pair.first of.first_is).0; second = ((resolved.each z k.row k.row_at).each of.b pair.second of.second_is).0 }

  pub types_answered : (old new : List StructPair) (answer : Bool) (rule : SizeRule) (t u : ℕ) → IsAnsweredHere f g old new (λ ps. AreOneHere f g ps rule t u) answer →
      IsAnswered (IsPair units) old new (λ ps. AreOneTypes units ps rule (record { source = s; number = t }) (record { source = z; number = u })) answer
  types_answered old new answer rule t u asked =
      let here = subst (λ f. IsAnsweredHere f (side k.unit k.row) old new (λ ps. AreOneHere f (side k.unit k.row) ps rule t u) answer) h.is
      (subst (λ g. IsAnsweredHere f g old new (λ ps. AreOneHere f g ps rule t u) answer) k.is asked) in
      answered_same (λ ps. AreOneHere (side h.unit h.row) (side k.unit k.row) ps rule t u) (λ ps. AreOneTypes units ps rule (record { source = s; number = t }) (record { source = z; number = u }))
      (λ ps one. types_there units rows resolved s z h.unit k.unit h.at k.at h.row k.row h.row_at k.row_at h.table k.table ps rule t u one)
      (λ ps one. types_back units rows resolved s z h.unit k.unit h.at k.at h.row k.row h.row_at k.row_at h.table k.table ps rule t u one)
      (answered_weaker (λ ps. AreOneHere (side h.unit h.row) (side k.unit k.row) ps rule t u) of_sources here)

  pub members_answered : (old new : List StructPair) (answer : Bool) (ms ns : List StructMember) → IsAnsweredHere f g old new (λ ps. AreOneMembersHere f g ps ms ns) answer →
      IsAnswered (IsPair units) old new (λ ps. AllZip (AreOneMember units ps s z) ms ns) answer
  members_answered old new answer ms ns asked =
      let here = subst (λ f. IsAnsweredHere f (side k.unit k.row) old new (λ ps. AreOneMembersHere f (side k.unit k.row) ps ms ns) answer) h.is
      (subst (λ g. IsAnsweredHere f g old new (λ ps. AreOneMembersHere f g ps ms ns) answer) k.is asked) in
      answered_same (λ ps. AreOneMembersHere (side h.unit h.row) (side k.unit k.row) ps ms ns) (λ ps. AllZip (AreOneMember units ps s z) ms ns)
      (λ ps one. members_there units rows resolved s z h.unit k.unit h.at k.at h.row k.row h.row_at k.row_at h.table k.table ps ms ns one)
      (λ ps one. members_back units rows resolved s z h.unit k.unit h.at k.at h.row k.row h.row_at k.row_at h.table k.table ps ms ns one)
      (answered_weaker (λ ps. AreOneMembersHere (side h.unit h.row) (side k.unit k.row) ps ms ns) of_sources here)

module _ (units : Units) {old new : List StructPair} {answer : Bool} where
  pub pair_answered : (pair : StructPair) (ms ns : List StructMember) → ms ≡ members_in units pair.first → ns ≡ members_in units pair.second → (pair.first.source ≡ pair.second.source → ⊥) → tag_name units pair.first ≡ tag_name units pair.second →
      IsAnswered (IsPair units) old new (λ ps. AllZip (AreOneMember units ps pair.first.source pair.second.source) ms ns) answer → IsAnswered (IsPair units) old new (λ ps. HasNoDifference units ps pair) answer
  pair_answered pair ms ns ms_are ns_are apart tags h =
      answered_same (λ ps. AllZip (AreOneMember units ps pair.first.source pair.second.source) ms ns) (λ ps. HasNoDifference units ps pair)
      (λ ps all. record {
        apart = apart;
        tags = tags;
        members = subst (λ ms. AllZip (AreOneMember units ps pair.first.source pair.second.source) ms (members_in units pair.second)) ms_are (subst (λ ns. AllZip (AreOneMember units ps pair.first.source pair.second.source) ms ns) ns_are all);
      })
      (λ ps k. subst (λ ms. AllZip (AreOneMember units ps pair.first.source pair.second.source) ms ns) (sym ms_are) (subst (λ ns. AllZip (AreOneMember units ps pair.first.source pair.second.source) (members_in units pair.first) ns) (sym ns_are) k.members))
      h

none_among : (old : List StructPair) → old ≡ [] → (pair : StructPair) → IsAmong old pair → ⊥
none_among old none_ pair among = none-some pair (subst (λ xs. slice_get xs among.0 ≡ Some pair) none_ among.1)

module _ (units : Units) (t u : TypeOf) (old new : List StructPair) (answer : Bool) (none_ : old ≡ []) (asked : IsAnswered (IsPair units) old new (λ ps. AreOneTypes units ps SameOrAbsent t u) answer) where
  pub alike_known : (pair : StructPair) → IsAmong new pair → IsPair units pair
  alike_known pair among = elim (asked.from pair among) [ inl there ↦ absurd (none_among old none_ pair there) | inr is ↦ is ]

  needed : (ps : List StructPair) → AreOneTypes units ps SameOrAbsent t u → (answer ≡ true) × AreAmong new ps
  needed ps one = asked.needed ps (λ pair there. absurd (none_among old none_ pair there)) one

  pub alike_no : answer ≡ false → (IsTrue false) ↔ AreDeclaredAlike units t u
  alike_no is_no = ((λ is. absurd (false≢true is)), (λ h. absurd (false≢true (sym is_no ∙ (needed h.0 h.2).0))))

  pub alike_settled : answer ≡ true → (last : List StructPair) (settles : Bool) → IsSettled units new last settles → IsTrue settles ↔ AreDeclaredAlike units t u
  alike_settled is_yes last settles settled = (
    (λ is. (last, settled.kept is, asked.holds is_yes last (longer_among new last settled.longer))),
    (λ h. settled.needed h.0 h.1 (needed h.0 h.2).1),
  )

module _ (units : Units) (pair : StructPair) (old new : List StructPair) (none_ : old ≡ []) (put : IsAnswered (λ p. p ≡ pair) old new (λ ps. IsAmong ps pair) true) where
  only_pair : (p : StructPair) → IsAmong new p → p ≡ pair
  only_pair p among = elim (put.from p among) [ inl there ↦ absurd (none_among old none_ p there) | inr is ↦ is ]

  pub pair_known : IsPair units pair → (p : StructPair) → IsAmong new p → IsPair units p
  pair_known known p among = subst (IsPair units) (sym (only_pair p among)) known

  pub pair_settled : (pair.first ≡ pair.second → ⊥) → (last : List StructPair) (answer : Bool) → IsSettled units new last answer → IsTrue answer ↔ IsNoDifference units pair
  pair_settled other last answer settled = (
    (λ is. inr (last, settled.kept is, longer_among new last settled.longer pair (put.holds refl new (λ p among. among)))),
    (λ h. elim h [
      | inl same ↦ absurd (other same)
      | inr kept ↦ settled.needed kept.0 kept.1 (λ p among. subst (IsAmong kept.0) (sym (only_pair p among)) kept.2)
    ]),
  )
