-- What the lock sets of racing accesses say of a location.
use Rattle.std.proofs.Common.{◌≡◌, ◌<◌, ◌+◌, ◌&&◌, ◌++◌, ◌⊎◌, ℕ, zero, suc, Bool, true, false, eqb, List, [], ◌∷◌, length, get_or, take, Contains, map, Some, refl, sym, ap, ◌∙◌, subst, inl, inr, arith}
use Rattle.std.specs.List.{slice_get}
use Rattle.std.proofs.lemmas.Bool.{eq-eqb, eqb-true, false≢true, or_cases, or_left, or_right}
use Rattle.std.proofs.lemmas.List.Elements.{All-contains, All-contains_itself, All-weaker, Contains-append_left, Contains-append_right, Contains-append_cases, Contains-push, Contains-push_cases}
use Rattle.std.proofs.lemmas.List.Folds.{list_all_more}
use Rattle.std.proofs.lemmas.List.Sums.{AllPass-from_list_all, list_all-from_AllPass}
use Rattle.std.proofs.lemmas.Option.{none-some}
use Rattle.lk_facts.specs.Basis.{Basis}
use Rattle.lk_facts.specs.Items.{ItemTest, LockTest}
use Rattle.lk_facts.specs.Lists.{Lists}
use Rattle.lk_facts.specs.Verdicts.{InLockSet, Guards, IsVerdict, AreRacing, AreNamed, IsVerdictOf}
use Rattle.lk_facts.specs.Verdicts.IsVerdict.{unshared, guarded, suspect}
use Rattle.lk_facts.specs.declared.verdict.Racing.{Racing}
use Rattle.lk_facts.specs.declared.verdict.Verdict.{Verdict}
use Rattle.lk_sets.specs.Ids.{has_id, IsSetOf}
use Rattle.lk_verdicts.specs.Judging.{IsCommon, in_all, state_of}

-- the meet with one more set
pub common_more : (first : List ℕ) (others : List Racing) (i : ℕ) (r : Racing) (old new : List ℕ) → i < length others → r ≡ get_or others i r →
    IsSetOf (λ q. has_id first q && in_all (take i others) q) old → IsSetOf (λ q. has_id old q && has_id r.locks q) new →
    IsSetOf (λ q. has_id first q && in_all (take (i + 1) others) q) new
common_more first others i r old new within is before set = record {
  sorted = set.sorted;
  members = λ q.
      let more = list_all_more (λ (s : Racing). has_id s.locks q) others i r within in
      let here : has_id (get_or others i r).locks q ≡ has_id r.locks q = ap (λ (s : Racing). has_id s.locks q) (sym is) in
      set.members q ∙ ap (λ b. b && has_id r.locks q) (before.members q) ∙ and_moved (has_id first q) (in_all (take i others) q) (has_id r.locks q) ∙ ap (λ b. has_id first q && b) (sym (more ∙ ap (λ b. in_all (take i others) q && b) here));
}
  where
    and_moved : (a b c : Bool) → ((a && b) && c) ≡ (a && (b && c))
    and_moved true b c = refl
    and_moved false b c = refl

-- a number of a mapped list is that of some element
mapped : (accesses : List Racing) (a : ℕ) → has_id (map (λ (r : Racing). r.access) accesses) a ≡ true → (r : Racing) × Contains accesses r × (r.access ≡ a)
mapped [] a there = absurd (false≢true there)
mapped (r ∷ rs) a there =
    elim (or_cases (eqb r.access a) (has_id (map (λ (s : Racing). s.access) rs) a) there) [
      | inl here ↦ (r, Contains-append_left (r ∷ []) rs r (Contains-push [] r), eqb-true r.access a here)
      | inr later ↦ let found = mapped rs a later in (found.0, Contains-append_right (r ∷ []) rs found.0 found.1, found.2)
    ]

mapped_there : (accesses : List Racing) (r : Racing) → Contains accesses r → has_id (map (λ (s : Racing). s.access) accesses) r.access ≡ true
mapped_there [] r there = absurd (omega (arith, there.1))
mapped_there (s ∷ rs) r there =
    elim (Contains-append_cases (s ∷ []) rs r there) [
      | inl here ↦ or_left _ _ (eq-eqb s.access r.access (ap (λ (t : Racing). t.access) (one_is s r here)))
      | inr later ↦ or_right (eqb s.access r.access) _ (mapped_there rs r later)
    ]
  where
    one_is : (s r : Racing) → Contains (s ∷ []) r → s ≡ r
    one_is s r there = elim (Contains-push_cases [] s r there) [ inl none ↦ absurd (omega (arith, none.1)) | inr same ↦ same ]

module _ (basis : Basis) (races : ItemTest) (locks : LockTest) (linear : ℕ → Bool) (o : ℕ) where
  -- what is in all lock sets guards the location
  guards : (accesses : List Racing) → AreRacing basis races locks linear o accesses → (q : ℕ) → in_all accesses q ≡ true → Guards basis races locks linear o q
  guards accesses are q passes a racing =
      let found = mapped accesses a ((are.each.members a).1 racing) in
      let there = All-contains (λ (r : Racing). has_id r.locks q ≡ true) accesses found.0 (AllPass-from_list_all (λ (r : Racing). has_id r.locks q) accesses passes) found.1 in
      let set = All-contains (λ (r : Racing). Lists (InLockSet basis races locks linear o r.access) r.locks) accesses found.0 are.sets found.1 in
      subst (λ b. InLockSet basis races locks linear o b q) found.2 ((set.members q).0 there)

  -- and what guards it is in all
  guarding : (accesses : List Racing) → AreRacing basis races locks linear o accesses → (q : ℕ) → Guards basis races locks linear o q → in_all accesses q ≡ true
  guarding accesses are q guards =
      list_all-from_AllPass (λ (r : Racing). has_id r.locks q) accesses
      (All-weaker (Contains accesses) (λ (r : Racing). has_id r.locks q ≡ true)
      (λ r there.
      let set = All-contains (λ (s : Racing). Lists (InLockSet basis races locks linear o s.access) s.locks) accesses r are.sets there in
      (set.members q).1 (guards r.access ((are.each.members r.access).0 (mapped_there accesses r there))))
      accesses (All-contains_itself accesses))

  -- the state and the locks that are named
  by_accesses : (accesses : List Racing) (named : List ℕ) → AreRacing basis races locks linear o accesses → IsCommon accesses named →
      IsVerdict basis races locks linear o (state_of accesses named) × AreNamed basis races locks linear o (state_of accesses named) named
  by_accesses [] named are common = (unshared (λ a racing. absurd (false≢true ((are.each.members a).1 racing))), common)
  by_accesses (r ∷ rs) [] are common = (
    suspect ((are.each.members r.access).0 (or_left _ _ (eq-eqb r.access r.access refl)))
        (λ q guards. absurd (false≢true (common.members q ∙ guarding (r ∷ rs) are q guards))),
    refl,
  )
  by_accesses (r ∷ rs) (n ∷ ns) are common = (
    guarded ((are.each.members r.access).0 (or_left _ _ (eq-eqb r.access r.access refl)))
        (guards (r ∷ rs) are n (sym (common.members n) ∙ or_left _ _ (eq-eqb n n refl))),
    record {
      sorted = common.sorted;
      members = λ q. (λ there. guards (r ∷ rs) are q (sym (common.members q) ∙ there), λ holds. common.members q ∙ guarding (r ∷ rs) are q holds);
    },
  )

  -- the verdict from the accesses, what their lock sets have in common, and the state
  pub verdict_is : (verdict : Verdict) → verdict.location ≡ o → AreRacing basis races locks linear o verdict.accesses → IsCommon verdict.accesses verdict.locks → verdict.state ≡ state_of verdict.accesses verdict.locks →
      IsVerdictOf basis races locks linear o verdict
  verdict_is verdict at are common state =
      let found = by_accesses verdict.accesses verdict.locks are common in
      record {
        location = at;
        racing = are;
        state = subst (IsVerdict basis races locks linear o) (sym state) found.0;
        named = subst (λ s. AreNamed basis races locks linear o s verdict.locks) (sym state) found.1;
      }

-- what a list has that was made one longer
pub got_more : {X : Type 0} (xs : List X) (x : X) (i : ℕ) (y : X) → slice_get (xs ++ x ∷ []) i ≡ Some y → (slice_get xs i ≡ Some y) ⊎ ((i ≡ length xs) × (x ≡ y))
got_more [] x zero y at = inr (refl, cc)
got_more [] x (suc i) y at = absurd (none-some y at)
got_more (z ∷ zs) x zero y at = inl at
got_more (z ∷ zs) x (suc i) y at = elim (got_more zs x i y at) [ inl before ↦ inl before | inr last ↦ inr (ap suc last.0, last.1) ]
