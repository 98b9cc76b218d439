-- The members of the program's structs, while a source gives them.
use Rattle.std.proofs.Common.{◌≡◌, ◌∙◌, inl, inr, ◌+◌, ◌<◌, ◌≤◌, ◌++◌, ℕ, zero, suc, Bool, true, false, List, [], ◌∷◌, Some, refl, sym, ap, subst, length, arith}
use Rattle.std.proofs.lemmas.Bool.{cases_eq, false≢true}
use Rattle.std.proofs.lemmas.Option.{same_Some, slice_get_past}
use Rattle.std.proofs.Math.Nat.{eq-or-lt_of_le}
use Rattle.std.specs.List.{slice_get, AllZip}
use Rattle.std.specs.Prelude.{◌↔◌, IsTrue, unwrap_or}
use Rattle.lk_types.specs.Building.{CanComplete, IsLonger, with_members}
use Rattle.lk_types.specs.Predeclared.{first_table}
use Rattle.lk_types.specs.Table.{Table, is_empty, is_open, members_of}
use Rattle.lk_types.specs.declared.member.StructMember.{StructMember}
use Rattle.lk_types.proofs.GrowLemmas.{longer_same, longer_then}
use Rattle.lk_join.specs.Completing.{AreCompleted, AreOpen, GivesMembers, HaveSameMembers, IsCompleted, IsGiven}
use Rattle.lk_join.specs.Forms.{IsHere, IsMember}
use Rattle.lk_join.proofs.Growing.{got, here_more}
use Rattle.lk_join.proofs.Saying.{set_here, set_there}
use Rattle.lk_join.proofs.Zips.{zip_weaker}

pub never_both : (b : Bool) → b ≡ true → b ≡ false → ⊥
never_both b yes_ no_ = false≢true (sym no_ ∙ yes_)

pub open_from : (b answer : Bool) → IsTrue answer ↔ (b ≡ false) → answer ≡ false → b ≡ true
open_from true answer both failed = refl
open_from false answer both failed = absurd (false≢true (sym failed ∙ both.1 refl))

pub open_past : (table : Table) (s : ℕ) → length table.members ≤ s → is_open table s ≡ true
open_past table s past = ap (λ o. is_empty (unwrap_or o [])) (slice_get_past table.members s past)

none_begun : (xs : List (List StructMember)) (n : ℕ) → unwrap_or (slice_get (xs ++ [] ∷ []) n) [] ≡ unwrap_or (slice_get xs n) []
none_begun [] zero = refl
none_begun [] (suc n) = refl
none_begun (x ∷ xs) zero = refl
none_begun (x ∷ xs) (suc n) = none_begun xs n

-- nor does a struct that begins
pub begun_same : (old new : Table) → new ≡ record old { members = old.members ++ [] ∷ [] } → HaveSameMembers old new
begun_same old new is n = ap (λ (table : Table). members_of table n) is ∙ none_begun old.members n

pub begun_open : (table begun : Table) → table ≡ first_table → HaveSameMembers table begun → AreOpen begun
begun_open table begun is same n = ap is_empty (same n ∙ ap (λ (t : Table). members_of t n) is)

module _ (types : Table) (structs : List ℕ) where
  pub completed_later : (old new : Table) → IsLonger old new → (a : ℕ) → IsCompleted types structs old a → IsCompleted types structs new a
  completed_later old new longer a h n here complete = let closed = h n here complete in ap is_empty (longer.members n closed) ∙ closed

  pub all_completed_later : (old new : Table) → IsLonger old new → (count : ℕ) → AreCompleted types structs old count → AreCompleted types structs new count
  all_completed_later old new longer count h a less = completed_later old new longer a (h a less)

  at_most : (i n : ℕ) → i < n + 1 → i ≤ n
  at_most i n less = omega arith

  pub completed_more : (old new : Table) → IsLonger old new → (n : ℕ) → AreCompleted types structs old n → IsCompleted types structs new n → AreCompleted types structs new (n + 1)
  completed_more old new longer n h this a less = elim (eq-or-lt_of_le (at_most a n less)) [
    | inl last ↦ subst (IsCompleted types structs new) (sym last) this
    | inr before ↦ completed_later old new longer a (h a before)
  ]

  pub completed_nothing : (table : Table) (a : ℕ) → is_open types a ≡ true → IsCompleted types structs table a
  completed_nothing table a open_ n here complete = absurd (never_both (is_open types a) open_ complete)

  pub completed_here : (table : Table) (a here : ℕ) → IsHere structs a here → is_open table here ≡ false → IsCompleted types structs table a
  completed_here table a here at closed n bt complete = subst (λ k. is_open table k ≡ false) (same_Some here n (sym at ∙ bt)) closed

  module _ (row : List ℕ) where
    pub given_later : (old new : Table) (n : ℕ) → members_of new n ≡ members_of old n → IsGiven types row structs old n → IsGiven types row structs new n
    given_later old new n same h = record {
      number = h.number;
      known = h.known;
      here = h.here;
      members = subst (AllZip (IsMember row) (members_of types h.number)) (sym same) h.members;
    }

    pub gives_same : (table : Table) → GivesMembers types row structs table table
    gives_same table = record { longer = longer_same table; given = λ n open_ closed. absurd (never_both (is_open table n) open_ closed) }

    pub gives_unchanged : (old new : Table) → IsLonger old new → new.members ≡ old.members → GivesMembers types row structs old new
    gives_unchanged old new longer same = record {
      longer = longer;
      given = λ n open_ closed. absurd (never_both (is_open new n) (ap (λ ms. is_empty (unwrap_or (slice_get ms n) [])) same ∙ open_) closed);
    }

    pub gives_then : (a b c : Table) → GivesMembers types row structs a b → GivesMembers types row structs b c → GivesMembers types row structs a c
    gives_then a b c first second = record {
      longer = longer_then a b c first.longer second.longer;
      given = λ n open_ closed. by n open_ closed (is_open b n) refl;
    }
      where
        by : (n : ℕ) → is_open a n ≡ true → is_open c n ≡ false → (now : Bool) → is_open b n ≡ now → IsGiven types row structs c n
        by n open_ closed true is = second.given n is closed
        by n open_ closed false is = given_later b c n (second.longer.members n is) (first.given n open_ is)

    -- a struct gets the members of one of the source
    module _ (old new : Table) (s here : ℕ) (members : List StructMember) (known : s < length types.members) (at : IsHere structs s here) (zip : AllZip (IsMember row) (members_of types s) members)
        (can : CanComplete old here members) (longer : IsLonger old new) (value : new ≡ with_members old here members) where
      members_here : members_of new here ≡ members
      members_here =
          let there = got old.members here can.known in
          ap (λ (t : Table). members_of t here) value ∙ ap (λ o. unwrap_or o []) (set_here old.members here there.0 members there.1)

      pub others_stay : (n : ℕ) → (n ≡ here → ⊥) → is_open new n ≡ is_open old n
      others_stay n apart = ap (λ (t : Table). is_open t n) value ∙ ap (λ o. is_empty (unwrap_or o [])) (set_there old.members here n members apart)

      pub give_gives : GivesMembers types row structs old new
      give_gives = record {
        longer = longer;
        given = λ n open_ closed. elim (cases_eq n here) [
          | inl this ↦ record {
            number = s;
            known = known;
            here = at ∙ ap Some (sym this);
            members = subst (AllZip (IsMember row) (members_of types s)) (sym (ap (members_of new) this ∙ members_here)) zip;
          }
          | inr apart ↦ absurd (never_both (is_open new n) (others_stay n apart ∙ open_) closed)
        ];
      }

      pub give_completes : IsCompleted types structs new s
      give_completes = completed_here new s here at (ap is_empty members_here ∙ can.members)

  pub gives_more : (row more : List ℕ) (old new : Table) → GivesMembers types row structs old new → GivesMembers types (row ++ more) structs old new
  gives_more row more old new h = record {
    longer = h.longer;
    given = λ n open_ closed. let is = h.given n open_ closed in record {
      number = is.number;
      known = is.known;
      here = is.here;
      members = zip_weaker (IsMember row) (IsMember (row ++ more)) (λ a b one. (one.0, here_more row more a.ty b.ty one.1)) (members_of types is.number) (members_of new n) is.members;
    };
  }
