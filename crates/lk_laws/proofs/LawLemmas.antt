-- The laws of the definitions.
use Rattle.std.proofs.Common.{◌≡◌, ℕ, Bool, true, false, ⊎_elim, inl, inr, refl}
use Rattle.lk_laws.proofs.HeldLemmas.{never_not_held, table_of}
use Rattle.lk_laws.proofs.MoreRaces.{more_conflicts, more_races, race_in}
use Rattle.lk_facts.specs.Basis.{Basis}
use Rattle.lk_facts.specs.Held.{NotHeld, Drops, at_test}
use Rattle.lk_facts.specs.Items.{LockTest, Rises, HasLock}
use Rattle.lk_laws.specs.Laws.{HeldIsNeverNotHeld, LockSetsAreExact, IsDroppedBefore, ReleasedIsNotHeld, CalleesLockIsNotKept, HasPartner, RacesComeInPairs, GuardIsInLockSets, VerdictIsOne, IsWorse, SuspectStaysUnguarded}
use Rattle.lk_facts.specs.Racing.{Setting, Conflicts, Races, AreRaceLocks}
use Rattle.lk_facts.specs.Verdicts.{IsVerdict}
use Rattle.lk_facts.specs.declared.way.Way.{Way}
use Rattle.lk_facts.specs.declared.source.Source.{Source}
use Rattle.lk_facts.specs.declared.source.Source.TheVariants.{OwnAccess, ItemBelow}

pub held_never : HeldIsNeverNotHeld
held_never basis p x held lost = never_not_held basis held.0 held.1 lost held.2

-- what is either true or false, and isn't false, is true
pub not_false : (b : Bool) → (b ≡ false → ⊥) → b ≡ true
not_false true h = refl
not_false false h = absurd (h refl)

not_true : (b : Bool) → (b ≡ true → ⊥) → b ≡ false
not_true true h = absurd (h refl)
not_true false h = refl

pub exact : LockSetsAreExact
exact basis held sets p x lock =
    let table = table_of basis held sets in (
      (
        (λ has. (at_test held, table, has)),
        (λ some. not_false _ (λ lacks. held_never basis p x some (sets.exact.at p x lock lacks))),
      ),
      (
        sets.exact.at p x lock,
        (λ lost. not_true _ (λ has. never_not_held basis _ table lost has)),
      ),
    )

lost : (basis : Basis) (x p : ℕ) → IsDroppedBefore basis x p → NotHeld basis p x
lost basis x p (IsDroppedBefore.here live next none drop) = NotHeld.dropped live next none drop
lost basis x q (IsDroppedBefore.before {p} earlier live next none) = NotHeld.still live next none (lost basis x p earlier)

pub released : ReleasedIsNotHeld
released basis x p dropped held = held_never basis p x held (lost basis x p dropped)

pub callees_lock : CalleesLockIsNotKept
callees_lock basis at p f g y d x way runs releases over clash keeps = keeps.1 (d, Drops.callee runs releases over, clash)

module _ (basis : Basis) (setting : Setting) where
  -- where a racing item rises its partner does
  partner_above : {p f g : ℕ} {way : Way} {child above : Bool} (o a : ℕ) → Rises basis p f way g child above → HasPartner basis setting g child o a → HasPartner basis setting f above o a
  partner_above o a (Rises.run runs) pair = record {
    other_child = pair.other_child;
    other = pair.other;
    races = Races.risen (Rises.run runs) pair.races;
    started = pair.started;
    writes = pair.writes;
  }
  partner_above o a (Rises.start starts) pair = record {
    other_child = true;
    other = pair.other;
    races = Races.risen (Rises.start starts) pair.races;
    started = inl refl;
    writes = pair.writes;
  }

pub partner : RacesComeInPairs
partner basis setting f child o a (Races.conflict (Conflicts.first both)) = record {
  other_child = _;
  other = _;
  races = Races.conflict (Conflicts.second both);
  started = inl refl;
  writes = both.write;
}
partner basis setting f child o a (Races.conflict (Conflicts.second both)) = record {
  other_child = true;
  other = _;
  races = Races.conflict (Conflicts.first both);
  started = inr refl;
  writes = ⊎_elim inr inl both.write;
}
partner basis setting f child o a (Races.risen {g} {child = below} rises race) =
    partner_above basis setting o a rises (partner basis setting g below o a race)

pub guard : GuardIsInLockSets
guard basis races locks linear o a q child guards race =
    let in_set = guards a (child, race) in
    (in_set, in_set.is_locked child race)

pub one_verdict : VerdictIsOne
one_verdict basis races locks linear o v w (IsVerdict.unshared none) (IsVerdict.unshared none') = refl
one_verdict basis races locks linear o v w (IsVerdict.unshared none) (IsVerdict.guarded race guards) = absurd (none _ race)
one_verdict basis races locks linear o v w (IsVerdict.unshared none) (IsVerdict.suspect race free) = absurd (none _ race)
one_verdict basis races locks linear o v w (IsVerdict.guarded race guards) (IsVerdict.unshared none) = absurd (none _ race)
one_verdict basis races locks linear o v w (IsVerdict.guarded race guards) (IsVerdict.guarded race' guards') = refl
one_verdict basis races locks linear o v w (IsVerdict.guarded race guards) (IsVerdict.suspect race' free) = absurd (free _ guards)
one_verdict basis races locks linear o v w (IsVerdict.suspect race free) (IsVerdict.unshared none) = absurd (none _ race)
one_verdict basis races locks linear o v w (IsVerdict.suspect race free) (IsVerdict.guarded race' guards) = absurd (free _ guards)
one_verdict basis races locks linear o v w (IsVerdict.suspect race free) (IsVerdict.suspect race' free') = refl

module _ (basis : Basis) (less more : Setting) (worse : IsWorse less more) where
  fewer_locks : (locks locks' : LockTest) → ((f : ℕ) (child : Bool) (s a x : ℕ) → locks' f child s a x ≡ true → locks f child s a x ≡ true) →
      (p : ℕ) (source : Source) (child : Bool) (a x : ℕ) → HasLock basis more.held locks' p source child a x → HasLock basis less.held locks p source child a x
  fewer_locks locks locks' fewer p OwnAccess child a x has = worse.at p x has
  fewer_locks locks locks' fewer p (ItemBelow way g below s) child a x has =
      ⊎_elim (λ risen. inl (risen.0, fewer g below s a risen.0 risen.1, risen.2)) (λ kept. inr (kept.0, worse.keep p x kept.1)) has

pub unguarded : SuspectStaysUnguarded
unguarded basis less more worse races races' locks locks' are are' linear linear' fewer o (IsVerdict.suspect race free) (IsVerdict.guarded {q} race' guards) =
    free q (λ a racing. let in_set = guards a (racing.0, there basis.program.main racing.0 o a racing.1) in record {
      is_place = in_set.is_place;
      is_linear = fewer q in_set.is_linear;
      is_locked = λ child race. let locked = in_set.is_locked child (there basis.program.main child o a race) in
          (locked.0, are.exact.greatest locks' allowed basis.program.main child o a locked.0 race locked.1, locked.2);
    })
  where
    there : (f : ℕ) (child : Bool) (o a : ℕ) → races f child o a ≡ true → races' f child o a ≡ true
    there f child o a race = race_in basis more races' locks' are'.closed (more_races basis less more worse.after worse.has (are.exact.least f child o a race))

    allowed : AreRaceLocks basis less races locks'
    allowed = record {
      conflict = λ f o p source child a x is has.
          fewer_locks basis less more worse less.locks more.locks worse.locks p source child a x
          (are'.closed.within.conflict f o p source child a x (more_conflicts basis less more worse.after worse.has is) has);
      risen = λ p f g o a x way below above rises race has.
          fewer_locks basis less more worse locks' locks' (λ f child s a x h. h) p (ItemBelow way g below o) above a x
          (are'.closed.within.risen p f g o a x way below above rises (there g below o a race) has);
    }
