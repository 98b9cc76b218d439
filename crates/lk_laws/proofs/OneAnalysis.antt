-- The analysis says one thing of a program.
use Rattle.std.proofs.Common.{◌≡◌, ℕ, ◌<◌, Bool, true, List, [], ◌∷◌, map, length, refl, sym, ap, subst, ◌∙◌, ⊎_elim, inl, inr}
use Rattle.std.specs.List.{AllByRecursion}
use Rattle.std.proofs.lemmas.List.{same_lists}
use Rattle.std.proofs.lemmas.List.Elements.{recursion_from_All}
use Rattle.std.proofs.lemmas.Option.{slice_get-get_or}
use Rattle.lk_laws.proofs.HeldLemmas.{never_not_held, released_in, may_drop_more, table_of}
use Rattle.lk_laws.proofs.LawLemmas.{not_false, one_verdict}
use Rattle.lk_laws.proofs.MoreRaces.{HasWithin, more_items, more_conflicts, more_races, item_in, race_in}
use Rattle.lk_laws.proofs.Sorted.{one_list}
use Rattle.lk_facts.specs.Analysis.{AreVerdictsOf, held_table}
use Rattle.lk_facts.specs.Basis.{Basis}
use Rattle.lk_facts.specs.Items.{ItemTest, LockTest, HeldTable, PointItem, HasLock, AreItemLocks}
use Rattle.lk_laws.specs.Laws.{IsWithin, VerdictsAreOne}
use Rattle.lk_facts.specs.Lists.{Lists}
use Rattle.lk_facts.specs.Held.{at_test, keep_test, release_test}
use Rattle.lk_facts.specs.Racing.{Setting, Conflicts, AreRaceLocks}
use Rattle.lk_facts.specs.Verdicts.{IsRacing, InLockSet, Guards, IsVerdict, AreRacing, AreNamed, IsVerdictOf}
use Rattle.lk_facts.specs.declared.source.Source.{Source}
use Rattle.lk_facts.specs.declared.source.Source.TheVariants.{OwnAccess, ItemBelow}
use Rattle.lk_facts.specs.declared.verdict.Racing.{Racing}
use Rattle.lk_facts.specs.declared.verdict.Verdict.{Verdict}
use Rattle.lk_facts.specs.declared.verdict.VerdictState.{VerdictState}
use Rattle.lk_facts.specs.declared.verdict.VerdictState.TheVariants.{Guarded, Unshared, Suspect}

-- the item from which an item of a point comes is there
abbrev HasBelow : ItemTest → Source → ℕ → Type 0
HasBelow has OwnAccess a = Unit {0}
HasBelow has (ItemBelow way g child s) a = has g child s a ≡ true

module _ (basis : Basis) where
  below_point : {has : ItemTest} {p f s a : ℕ} {source : Source} {child : Bool} → PointItem basis has p f source child s a → HasBelow has source a
  below_point (PointItem.accessed here) = tt
  below_point (PointItem.risen rises here over) = here

  below_conflict : {setting : Setting} {f o p a : ℕ} {source : Source} {child : Bool} → Conflicts basis setting f o p source child a → HasBelow setting.has source a
  below_conflict (Conflicts.first both) = below_point both.first
  below_conflict (Conflicts.second both) = below_point both.second

  -- an item's locks by one table are locks of it by another
  locks_over : (held held' : HeldTable) (has : ItemTest) (locks locks' : LockTest) → IsWithin held.at held'.at → IsWithin held.keep held'.keep →
      ((f : ℕ) (child : Bool) (s a x : ℕ) → has f child s a ≡ true → locks f child s a x ≡ true → locks' f child s a x ≡ true) →
      (p : ℕ) (source : Source) (child : Bool) (a x : ℕ) → HasBelow has source a → HasLock basis held locks p source child a x → HasLock basis held' locks' p source child a x
  locks_over held held' has locks locks' at keep over p OwnAccess child a x below lock = at p x lock
  locks_over held held' has locks locks' at keep over p (ItemBelow way g child' s) child a x below lock =
      ⊎_elim (λ risen. inl (risen.0, over g child' s a risen.0 below risen.1, risen.2)) (λ kept. inr (kept.0, keep p x kept.1)) lock

  -- what the races of an analysis rest on
  abbrev setting_of : {vs : List Verdict} → AreVerdictsOf basis vs → Setting
  setting_of one = record { after = one.after; has = one.has; held = held_table one.held; locks = one.item_locks }

  -- what one analysis of a program finds another one finds too
  module _ {vs ws : List Verdict} (one : AreVerdictsOf basis vs) (other : AreVerdictsOf basis ws) where
    at_within : IsWithin (at_test one.held) (at_test other.held)
    at_within p x here =
        let table = table_of basis one.held one.lock_sets in
        not_false _ (λ lacks. never_not_held basis _ table (other.lock_sets.exact.at p x (table.locks p x here) lacks) here)

    keep_within : IsWithin (keep_test one.held) (keep_test other.held)
    keep_within p x here =
        let keeps = one.lock_sets.closed.keep p x here in
        other.lock_sets.exact.keep p x (at_within p x keeps.0, (λ drop. keeps.1 (may_drop_more basis released p x drop)))
      where
        released : (f y : ℕ) → release_test other.held f y ≡ true → release_test one.held f y ≡ true
        released f y is = released_in basis (release_test one.held) one.lock_sets.closed.released (other.lock_sets.exact.released f y is)

    after_within : IsWithin one.after other.after
    after_within p q here = (other.order p q).1 ((one.order p q).0 here)

    linear_within : (q : ℕ) → one.linear q ≡ true → other.linear q ≡ true
    linear_within q here = (other.is_linear q).1 ((one.is_linear q).0 here)

    items_within : HasWithin one.has other.has
    items_within f child s a here = item_in basis (held_table other.held) other.has other.item_locks other.items.closed (one.items.exact.least f child s a here)

    races_within : HasWithin one.races other.races
    races_within f child o a here =
        race_in basis (setting_of other) other.races other.race_locks other.racing.closed
        (more_races basis (setting_of one) (setting_of other) after_within items_within (one.racing.exact.least f child o a here))

  module _ {vs ws : List Verdict} (one : AreVerdictsOf basis vs) (other : AreVerdictsOf basis ws) where
    item_locks_allowed : AreItemLocks basis (held_table other.held) other.has one.item_locks
    item_locks_allowed p f source child s a x item lock =
        let back = more_items basis (items_within other one) item in
        locks_over (held_table one.held) (held_table other.held) other.has one.item_locks one.item_locks (at_within one other) (keep_within one other)
        (λ f child s a x has lock. lock) p source child a x (below_point item) (one.items.closed.within p f source child s a x back lock)

    item_locks_within : (f : ℕ) (child : Bool) (s a x : ℕ) → other.has f child s a ≡ true → one.item_locks f child s a x ≡ true → other.item_locks f child s a x ≡ true
    item_locks_within f child s a x here lock = other.items.exact.greatest one.item_locks item_locks_allowed f child s a x here lock

    race_locks_allowed : AreRaceLocks basis (setting_of other) other.races one.race_locks
    race_locks_allowed = record {
      conflict = λ f o p source child a x is lock.
          let back = more_conflicts basis (setting_of other) (setting_of one) (after_within other one) (items_within other one) is in
          locks_over (held_table one.held) (held_table other.held) other.has one.item_locks other.item_locks (at_within one other) (keep_within one other)
          item_locks_within p source child a x (below_conflict {setting = setting_of other} is) (one.racing.closed.within.conflict f o p source child a x back lock);
      risen = λ p f g o a x way child above rises race lock.
          let back = races_within other one g child o a race in
          locks_over (held_table one.held) (held_table other.held) other.races one.race_locks one.race_locks (at_within one other) (keep_within one other)
          (λ f child s a x has lock. lock) p (ItemBelow way g child o) above a x race (one.racing.closed.within.risen p f g o a x way child above rises back lock);
    }

    race_locks_within : (child : Bool) (o a x : ℕ) → other.races basis.program.main child o a ≡ true → one.race_locks basis.program.main child o a x ≡ true → other.race_locks basis.program.main child o a x ≡ true
    race_locks_within child o a x here lock = other.racing.exact.greatest one.race_locks race_locks_allowed basis.program.main child o a x here lock

    racing_within : (o a : ℕ) → IsRacing basis one.races one.race_locks o a → IsRacing basis other.races other.race_locks o a
    racing_within o a race = (race.0, races_within one other basis.program.main race.0 o a race.1)

    lock_set_within : (o a q : ℕ) → InLockSet basis one.races one.race_locks one.linear o a q → InLockSet basis other.races other.race_locks other.linear o a q
    lock_set_within o a q in_set = record {
      is_place = in_set.is_place;
      is_linear = linear_within one other q in_set.is_linear;
      is_locked = λ child race. let locked = in_set.is_locked child (races_within other one basis.program.main child o a race) in
          (locked.0, race_locks_within child o a locked.0 race locked.1, locked.2);
    }

  module _ {vs ws : List Verdict} (one : AreVerdictsOf basis vs) (other : AreVerdictsOf basis ws) where
    guards_within : (o q : ℕ) → Guards basis one.races one.race_locks one.linear o q → Guards basis other.races other.race_locks other.linear o q
    guards_within o q guards a race = lock_set_within one other o a q (guards a (racing_within other one o a race))

  -- so what one analysis says of a location the other says too
  relisted : (P Q : ℕ → Type 0) (ids : List ℕ) → ((x : ℕ) → P x → Q x) → ((x : ℕ) → Q x → P x) → Lists P ids → Lists Q ids
  relisted P Q ids there back lists = record {
    sorted = lists.sorted;
    members = λ x. ((λ here. there x ((lists.members x).0 here)), (λ holds. (lists.members x).1 (back x holds)));
  }

  abbrev racing : ℕ → List ℕ → Racing
  racing access locks = record { access = access; locks = locks }

  abbrev verdict : ℕ → VerdictState → List ℕ → List Racing → Verdict
  verdict location state locks accesses = record { location = location; state = state; locks = locks; accesses = accesses }

  module _ {vs ws : List Verdict} (one : AreVerdictsOf basis vs) (other : AreVerdictsOf basis ws) where
    same_state : (o : ℕ) (state : VerdictState) → IsVerdict basis other.races other.race_locks other.linear o state → IsVerdict basis one.races one.race_locks one.linear o state
    same_state o Unshared (IsVerdict.unshared none) = IsVerdict.unshared (λ a race. none a (racing_within one other o a race))
    same_state o Guarded (IsVerdict.guarded race guards) = IsVerdict.guarded (racing_within other one o _ race) (guards_within other one o _ guards)
    same_state o Suspect (IsVerdict.suspect race free) = IsVerdict.suspect (racing_within other one o _ race) (λ q guards. free q (guards_within one other o q guards))

    abbrev HasSet : ℕ → Racing → Type 0
    HasSet o r = Lists (InLockSet basis one.races one.race_locks one.linear o r.access) r.locks

    abbrev HasOtherSet : ℕ → Racing → Type 0
    HasOtherSet o r = Lists (InLockSet basis other.races other.race_locks other.linear o r.access) r.locks

    same_racing : (o : ℕ) (r q : Racing) → r.access ≡ q.access → HasSet o r → HasOtherSet o q → r ≡ q
    same_racing o r q e h k =
        let k' = relisted _ (InLockSet basis one.races one.race_locks one.linear o r.access) q.locks
        (λ x. lock_set_within other one o r.access x) (λ x. lock_set_within one other o r.access x)
        (subst (λ a. Lists (InLockSet basis other.races other.race_locks other.linear o a) q.locks) (sym e) k) in
        let locks = one_list _ r.locks q.locks h k' in
        ap (racing r.access) locks ∙ ap (λ a. racing a q.locks) e

    same_accesses : (o : ℕ) (rs qs : List Racing) → map (λ r. r.access) rs ≡ map (λ r. r.access) qs → AllByRecursion (HasSet o) rs → AllByRecursion (HasOtherSet o) qs → rs ≡ qs
    same_accesses o [] [] e h k = refl
    same_accesses o [] (q ∷ qs) e h k = cc
    same_accesses o (r ∷ rs) [] e h k = cc
    same_accesses o (r ∷ rs) (q ∷ qs) e h k =
        let first : r.access ≡ q.access = cc in
        let more : map (λ r. r.access) rs ≡ map (λ r. r.access) qs = cc in
        let a = same_racing o r q first h.0 k.0 in
        let b = same_accesses o rs qs more h.1 k.1 in
        cc

    same_lists_of_accesses : (o : ℕ) (rs qs : List Racing) → AreRacing basis one.races one.race_locks one.linear o rs → AreRacing basis other.races other.race_locks other.linear o qs → rs ≡ qs
    same_lists_of_accesses o rs qs a b =
        let b' = relisted _ (IsRacing basis one.races one.race_locks o) _ (λ x. racing_within other one o x) (λ x. racing_within one other o x) b.each in
        same_accesses o rs qs (one_list _ _ _ a.each b') (recursion_from_All _ rs a.sets) (recursion_from_All _ qs b.sets)

    same_locks : (o : ℕ) (state : VerdictState) (ls ms : List ℕ) → AreNamed basis one.races one.race_locks one.linear o state ls → AreNamed basis other.races other.race_locks other.linear o state ms → ls ≡ ms
    same_locks o Unshared ls ms a b = a ∙ sym b
    same_locks o Guarded ls ms a b = one_list _ ls ms a (relisted _ _ ms (λ x. guards_within other one o x) (λ x. guards_within one other o x) b)
    same_locks o Suspect ls ms a b = a ∙ sym b

    same_verdict : (o : ℕ) (v w : Verdict) → IsVerdictOf basis one.races one.race_locks one.linear o v → IsVerdictOf basis other.races other.race_locks other.linear o w → v ≡ w
    same_verdict o v w a b =
        let state = one_verdict basis one.races one.race_locks one.linear o v.state w.state a.state (same_state o w.state b.state) in
        let locks = same_locks o w.state v.locks w.locks (subst (λ s. AreNamed basis one.races one.race_locks one.linear o s v.locks) state a.named) b.named in
        let accesses = same_lists_of_accesses o v.accesses w.accesses a.racing b.racing in
        let location = a.location ∙ sym b.location in
        ap (λ l. verdict l v.state v.locks v.accesses) location ∙ (ap (λ s. verdict w.location s v.locks v.accesses) state
        ∙ (ap (λ l. verdict w.location w.state l v.accesses) locks ∙ ap (verdict w.location w.state w.locks) accesses))

    same_all : vs ≡ ws
    same_all =
        let long : length vs ≡ length ws = one.verdicts.each ∙ sym other.verdicts.each in
        same_lists vs ws long (λ o d l.
        same_verdict o _ _ (one.verdicts.are o _ (slice_get-get_or vs o d l)) (other.verdicts.are o _ (slice_get-get_or ws o d (subst (λ n. o < n) long l))))

pub one_analysis : VerdictsAreOne
one_analysis basis vs ws a b = same_all basis a b
