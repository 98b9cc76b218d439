-- A step of a thread keeps what its lock sets say of its trail: what they have at its point, and what they keep in the frames below, is owned.
use Rattle.std.proofs.Common.{◌≡◌, ℕ, true, false, List, [], ◌∷◌, ◌++◌, Some, inl, inr, refl, sym, ap, subst, ◌∙◌}
use Rattle.std.proofs.lemmas.Bool.{false≢true}
use Rattle.std.proofs.lemmas.Option.{same_Some}
use Rattle.lk_facts.specs.Basis.{Basis}
use Rattle.lk_facts.specs.Doing.{Frees, Takes, Runs}
use Rattle.lk_facts.specs.Held.{AreClosedLockSets, Adds, Drops, IsBrought, RunsNone, at_test}
use Rattle.lk_facts.specs.Held.Adds.{taken, brought}
use Rattle.lk_facts.specs.LockSets.{LockSets}
use Rattle.lk_facts.specs.PathTables.{IsClosed}
use Rattle.lk_facts.specs.Program.{effect_at, exit_of}
use Rattle.lk_facts.specs.Reach.{IsLiveNext}
use Rattle.lk_facts.specs.declared.edge.Edge.{Edge}
use Rattle.lk_facts.specs.declared.effect.Effect.TheVariants as to
use Rattle.lk_facts.specs.declared.way.Way.{Way}
use Rattle.lk_trails.proofs.Dropping.{runs_of, runs_live, top_live, one_function, kept_owned, kept_down}
use Rattle.lk_trails.proofs.Meaning.{means_all, held_as, lock_out, holds_on, kept_on}
use Rattle.lk_trails.proofs.Parting.{heads, tails, no_creation, creation_more, creation_less}
use Rattle.lk_trails.specs.Holding.{Owned, HoldsAt, HoldsKept, AreKept, AreHeld, OwnedGoesOn}
use Rattle.lk_trails.specs.Holding.AreKept.{none, before, own}
use Rattle.lk_trails.specs.Named.{Holds}
use Rattle.lk_trails.specs.Trails.{Stay, Left, stay, trail, left_at, HasCreation, Enters, Begins, IsLinked, IsReturn}
use Rattle.lk_trails.specs.Trails.Moves.{goes, calls, returns}
use Rattle.lk_trails.proofs.Statements.{HeldIsKept}

-- ---- what points do

module _ (basis : Basis) where
  idle_frees_none : (p f y : ℕ) → effect_at basis.program p ≡ Some to.Nothing → Frees basis p f y → ⊥
  idle_frees_none p f y idle (Frees.frees a does target) = not_both a (same_Some to.Nothing (to.Frees a) (sym idle ∙ does.is))
    where
      not_both : (a : ℕ) → to.Nothing ≡ to.Frees a → ⊥
      not_both a h = absurd cc

  -- a point that goes into no function, and takes no mutex, adds no lock
  idle_takes_none : (p f y : ℕ) → effect_at basis.program p ≡ Some to.Nothing → Takes basis p f y → ⊥
  idle_takes_none p f y idle (Takes.takes a does target) = not_both a (same_Some to.Nothing (to.Takes a) (sym idle ∙ does.is))
    where
      not_both : (a : ℕ) → to.Nothing ≡ to.Takes a → ⊥
      not_both a h = absurd cc

  idle_runs_none : (p f g : ℕ) (way : Way) → effect_at basis.program p ≡ Some to.Nothing → Runs basis p f way g → ⊥
  idle_runs_none p f g way idle (Runs.call e i does site) = not_both e (same_Some to.Nothing (to.Runs e) (sym idle ∙ does.is))
    where
      not_both : (g : ℕ) → to.Nothing ≡ to.Runs g → ⊥
      not_both g h = absurd cc
  idle_runs_none p f g way idle (Runs.pointer e a i does may) = not_both a (same_Some to.Nothing (to.RunsThrough a) (sym idle ∙ does.is))
    where
      not_both : (a : ℕ) → to.Nothing ≡ to.RunsThrough a → ⊥
      not_both a h = absurd cc

  -- what runs a function takes no mutex
  runs_takes_none : {p f g : ℕ} {way : Way} → Runs basis p f way g → (e y : ℕ) → Takes basis p e y → ⊥
  runs_takes_none (Runs.call g i does site) e y (Takes.takes a taking target) = not_both g a (same_Some (to.Runs g) (to.Takes a) (sym does.is ∙ taking.is))
    where
      not_both : (g a : ℕ) → to.Runs g ≡ to.Takes a → ⊥
      not_both g a h = absurd cc
  runs_takes_none (Runs.pointer g b i does may) e y (Takes.takes a taking target) = not_both b a (same_Some (to.RunsThrough b) (to.Takes a) (sym does.is ∙ taking.is))
    where
      not_both : (b a : ℕ) → to.RunsThrough b ≡ to.Takes a → ⊥
      not_both b a h = absurd cc

-- ---- frames

module _ (basis : Basis) (es : List Edge) (held : LockSets) (owned : Owned basis es held) where
  -- one more frame of the thread itself that keeps what the lock sets keep
  kept_more : {left : List Left} → AreKept basis es held owned left → (x : Left) → HoldsKept basis es held owned x.at → AreKept basis es held owned (left ++ x ∷ [])
  kept_more none x holds = own x [] holds none
  kept_more (before y rest created kept) x holds = before y (rest ++ x ∷ []) (creation_more created x) (kept_more kept x holds)
  kept_more (own y rest keeps kept) x holds = own y (rest ++ x ∷ []) keeps (kept_more kept x holds)

  none_before : (x : Left) (left : List Left) → [] ≡ left ++ x ∷ [] → ⊥
  none_before x [] h = absurd cc
  none_before x (y ∷ left) h = absurd cc

  not_created : {all : List Left} → HasCreation all → (caller : Stay) → all ≡ left_at caller false ∷ [] → ⊥
  not_created created caller h = no_creation (creation_less created [] caller h) refl

  -- the last frame, and the others
  kept_last : {all : List Left} → AreKept basis es held owned all → (left : List Left) (caller : Stay) → all ≡ left ++ left_at caller false ∷ [] → HoldsKept basis es held owned caller
  kept_last none left caller h = absurd (none_before (left_at caller false) left h)
  kept_last (before x rest created kept) [] caller h = absurd (not_created created caller h)
  kept_last (before x rest created kept) (y ∷ left) caller h = kept_last kept left caller (tails x y rest (left ++ left_at caller false ∷ []) h)
  kept_last (own x rest holds kept) [] caller h = subst (λ (z : Left). HoldsKept basis es held owned z.at) (heads x (left_at caller false) rest [] h) holds
  kept_last (own x rest holds kept) (y ∷ left) caller h = kept_last kept left caller (tails x y rest (left ++ left_at caller false ∷ []) h)

  kept_less : {all : List Left} → AreKept basis es held owned all → (left : List Left) (caller : Stay) → all ≡ left ++ left_at caller false ∷ [] → AreKept basis es held owned left
  kept_less none left caller h = absurd (none_before (left_at caller false) left h)
  kept_less (before x rest created kept) [] caller h = none
  kept_less (before x rest created kept) (y ∷ left) caller h =
      let less = creation_less created (y ∷ left) caller h in
      before y left less (kept_less kept left caller (tails x y rest (left ++ left_at caller false ∷ []) h))
  kept_less (own x rest holds kept) [] caller h = none
  kept_less (own x rest holds kept) (y ∷ left) caller h =
      let first = subst (λ (z : Left). HoldsKept basis es held owned z.at) (heads x y rest (left ++ left_at caller false ∷ []) h) holds in
      own y left first (kept_less kept left caller (tails x y rest (left ++ left_at caller false ∷ []) h))

-- ---- the moves

module _ (basis : Basis) (es : List Edge) (held : LockSets) (closed : IsClosed es basis.labels basis.flow) (sets : AreClosedLockSets basis held) (old new : Owned basis es held) where
  -- what a point keeps is owned after its step
  kept_there : (top : Stay) → OwnedGoesOn basis es held top old new → HoldsAt basis es held old top → HoldsKept basis es held new top
  kept_there top goes_on at x keeps =
      kept_owned basis es held closed sets old new top goes_on x top.context
      (λ f y o h freeing is_origin means may. keeps.1 (y, Drops.itself freeing, (o, may, means_all es basis.labels basis.flow closed o y h top.context is_origin means))) (at x keeps.0)

  by_going : (left : List Left) (p q : ℕ) (c : List ℕ) → RunsNone basis p → IsLiveNext basis.program p q → IsLinked basis left (stay p c) → OwnedGoesOn basis es held (stay p c) old new →
      AreHeld basis es held old (trail left (stay p c)) → AreHeld basis es held new (trail left (stay q c))
  by_going left p q c runs_none next linked goes_on is = record { at = held_there; kept = kept_down basis es held closed sets old new goes_on linked is.kept }
    where
      added : (x : ℕ) → Adds basis (at_test held) p x → Holds basis.labels es new x c
      added x (taken {f} {y} taking is_held) =
          let found = goes_on.taken f y taking in
          record { origin = found.0; home = found.1; is_owned = found.2; is_origin = found.3; means = held_as es basis.labels basis.flow closed found.0 y x found.1 c found.3 is_held found.4 }
      added x (brought {f} {g} {way} runs each) = absurd (runs_none f g way runs)

      held_there : HoldsAt basis es held new (stay q c)
      held_there x there = elim (sets.at.steps p q x (top_live basis linked) next.0 there) [ inl adds ↦ added x adds | inr keeps ↦ kept_there (stay p c) goes_on is.at x keeps ]

  by_call : (left : List Left) (top to : Stay) → Begins basis top false to → IsLinked basis left top → OwnedGoesOn basis es held top old new → AreHeld basis es held old (trail left top) →
      AreHeld basis es held new (trail (left ++ left_at top false ∷ []) to)
  by_call left top to begins linked goes_on is = record {
    at = λ x there. absurd (false≢true (sym (sets.at.entries begins.enters.g to.point x begins.entry) ∙ there));
    kept = kept_more basis es held new (kept_down basis es held closed sets old new goes_on linked is.kept) (left_at top false) (kept_there top goes_on is.at);
  }

  by_return : (left : List Left) (caller top : Stay) (q : ℕ) → Enters basis caller false top → IsReturn basis top.point → IsLiveNext basis.program caller.point q →
      OwnedGoesOn basis es held top old new → AreHeld basis es held old (trail (left ++ left_at caller false ∷ []) top) → AreHeld basis es held new (trail left (stay q caller.context))
  by_return left caller top q enters return next goes_on is = record { at = held_there; kept = kept_on basis es held old new on (kept_less basis es held old is.kept left caller refl) }
    where
      on : (o : ℕ) (h : List ℕ) → old o h → new o h
      on o h is_owned = elim (goes_on.kept o h is_owned) [ inl still ↦ still | inr freed ↦ absurd (idle_frees_none basis top.point freed.0 freed.1 return.idle freed.2) ]

      runs : Runs basis caller.point enters.f enters.way enters.g
      runs = runs_of basis enters.goes refl

      -- the return has what its function's exit has
      returned : (y : ℕ) → at_test held return.exit y ≡ true → Holds basis.labels es old y top.context
      returned y there = elim (sets.at.steps top.point return.exit y return.live return.next there) [ inl adds ↦ absurd (adds_none adds) | inr keeps ↦ is.at y keeps.0 ]
        where
          adds_none : Adds basis (at_test held) top.point y → ⊥
          adds_none (taken {f} {y = z} taking is_held) = idle_takes_none basis top.point f z return.idle taking
          adds_none (brought {f} {g} {way} some each) = idle_runs_none basis top.point f g way return.idle some

      -- so it brings back what rises from there
      risen : (x : ℕ) → IsBrought basis (at_test held) enters.way enters.g x → Holds basis.labels es old x caller.context
      risen x (y, e, there, rises, exits) =
          let same : return.g ≡ enters.g = one_function basis.program top.point return.g enters.g return.stands enters.stands in
          let exit : return.exit ≡ e = same_Some return.exit e (sym return.exits ∙ ap (λ n. exit_of basis.program n) same ∙ exits) in
          let inside = subst (λ c. Holds basis.labels es old y c) enters.inside (returned y (subst (λ n. at_test held n y ≡ true) (sym exit) there)) in
          lock_out es basis.labels basis.flow closed old x y caller.context enters.way rises inside

      added : (x : ℕ) → Adds basis (at_test held) caller.point x → Holds basis.labels es old x caller.context
      added x (taken {f} {y} taking is_held) = absurd (runs_takes_none basis runs f y taking)
      added x (brought some each) = risen x (each enters.f enters.g enters.way runs)

      held_there : HoldsAt basis es held new (stay q caller.context)
      held_there x there = holds_on basis es held old new on x caller.context
          (elim (sets.at.steps caller.point q x (runs_live basis runs) next.0 there) [
            | inl adds ↦ added x adds
            | inr keeps ↦ kept_last basis es held old is.kept left caller refl x keeps
          ])

pub held_is_kept : HeldIsKept
held_is_kept basis es held closed sets old new act s t linked goes_on (goes left p q c runs_none next) is = by_going basis es held closed sets old new left p q c runs_none next linked goes_on is
held_is_kept basis es held closed sets old new act s t linked goes_on (calls left top to begins) is = by_call basis es held closed sets old new left top to begins linked goes_on is
held_is_kept basis es held closed sets old new act s t linked goes_on (returns left caller top q enters return next) is =
    by_return basis es held closed sets old new left caller top q enters return next goes_on is
