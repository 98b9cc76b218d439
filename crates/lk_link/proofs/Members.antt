-- The members of two structs, compared as far as a loop has come.
use Rattle.std.proofs.Common.{◌≡◌, ◌+◌, ℕ, zero, suc, Bool, true, false, List, [], ◌∷◌, Some, subst, take, arith, All}
use Rattle.std.proofs.lemmas.List.Elements.{All-head, All-tail}
use Rattle.std.proofs.lemmas.Option.{none-some, same_Some}
use Rattle.std.specs.List.{slice_get}
use Rattle.lk_types.specs.Building.{types_of}
use Rattle.lk_types.specs.Table.{Table, IsKnown}
use Rattle.lk_types.specs.declared.member.StructMember.{StructMember}
use Rattle.lk_link.specs.Comparing.{SideTable, IsAnsweredHere, AreOneHere, AreOneMemberHere, AreOneMembersHere}
use Rattle.lk_link.specs.declared.place.SizeRule.TheVariants.{Same}
use Rattle.lk_link.specs.declared.place.StructPair.{StructPair}
use Rattle.lk_link.proofs.Answering.{answered_then, answered_then_stop}
use Rattle.lk_link.proofs.Zipping.{zip_more, zip_less, zip_last, zip_take}

pub member_known : (table : Table) (members : List StructMember) (k : ℕ) (member : StructMember) → All (IsKnown table) (types_of members) → slice_get members k ≡ Some member → IsKnown table member.ty
member_known table [] k member all at = absurd (none-some member at)
member_known table (m ∷ members) zero member all at = subst (λ x. IsKnown table x.ty) (same_Some m member at) (All-head (IsKnown table) m.ty (types_of members) all)
member_known table (m ∷ members) (suc k) member all at = member_known table members k member (All-tail (IsKnown table) m.ty (types_of members) all) at

module _ (first second : SideTable) where
  pub members_last : (ps : List StructPair) (members others : List StructMember) (k : ℕ) (a b : StructMember) → slice_get members k ≡ Some a → slice_get others k ≡ Some b →
      AreOneMembersHere first second ps members others → AreOneMemberHere first second ps a b
  members_last ps members others k a b at bt h =
      zip_last (AreOneMemberHere first second ps) members others k a b at bt (zip_take (AreOneMemberHere first second ps) members others (suc k) h)

  module _ (members others : List StructMember) (k : ℕ) (a b : StructMember) (at : slice_get members k ≡ Some a) (bt : slice_get others k ≡ Some b) (old middle new : List StructPair)
      (before : IsAnsweredHere first second old middle (λ ps. AreOneMembersHere first second ps (take k members) (take k others)) true) where
    pub members_stop : (answer : Bool) → answer ≡ false → IsAnsweredHere first second middle new (λ ps. AreOneHere first second ps Same a.ty b.ty) answer →
        IsAnsweredHere first second old new (λ ps. AreOneMembersHere first second ps members others) false
    members_stop answer false_ h =
        answered_then_stop (λ ps. AreOneMembersHere first second ps (take k members) (take k others)) (λ ps. AreOneHere first second ps Same a.ty b.ty) (λ ps. AreOneMembersHere first second ps members others)
        (λ ps hs. zip_take (AreOneMemberHere first second ps) members others k hs)
        (λ ps hs. (members_last ps members others k a b at bt hs).1)
        before (subst (IsAnsweredHere first second middle new (λ ps. AreOneHere first second ps Same a.ty b.ty)) false_ h)

    pub members_step : a.name ≡ b.name → (answer : Bool) → answer ≡ true → IsAnsweredHere first second middle new (λ ps. AreOneHere first second ps Same a.ty b.ty) answer →
        IsAnsweredHere first second old new (λ ps. AreOneMembersHere first second ps (take (k + 1) members) (take (k + 1) others)) true
    members_step names answer true_ h =
        let number : suc k ≡ k + 1 = omega arith in
        subst (λ n. IsAnsweredHere first second old new (λ ps. AreOneMembersHere first second ps (take n members) (take n others)) true) number
        (answered_then (λ ps. AreOneMembersHere first second ps (take k members) (take k others)) (λ ps. AreOneHere first second ps Same a.ty b.ty)
        (λ ps. AreOneMembersHere first second ps (take (suc k) members) (take (suc k) others))
        (λ ps hs one. zip_more (AreOneMemberHere first second ps) members others k a b at bt hs (names, one))
        (λ ps hs. zip_less (AreOneMemberHere first second ps) members others k hs)
        (λ ps hs. (zip_last (AreOneMemberHere first second ps) members others k a b at bt hs).1)
        before (subst (IsAnsweredHere first second middle new (λ ps. AreOneHere first second ps Same a.ty b.ty)) true_ h))
