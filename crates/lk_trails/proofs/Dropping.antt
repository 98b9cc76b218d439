-- What a point frees, each frame of its thread drops where it went into the next: drops go down the trail. So what these frames keep stays owned.
use Rattle.std.proofs.Common.{◌≡◌, ◌⊎◌, ℕ, Bool, true, false, List, [], ◌∷◌, Some, inl, inr, refl, sym, subst, ◌∙◌}
use Rattle.std.proofs.lemmas.Bool.{false≢true}
use Rattle.std.proofs.lemmas.Option.{same_Some}
use Rattle.lk_facts.specs.Basis.{Basis}
use Rattle.lk_facts.specs.Doing.{Frees, Runs}
use Rattle.lk_facts.specs.Flow.{Over}
use Rattle.lk_facts.specs.Held.{AreClosedLockSets, Drops, MayDrop, release_test, says}
use Rattle.lk_facts.specs.Labels.{is_origin_at}
use Rattle.lk_facts.specs.LockSets.{LockSets}
use Rattle.lk_facts.specs.PathTables.{IsClosed}
use Rattle.lk_facts.specs.Program.{function_at, live_at}
use Rattle.lk_facts.specs.declared.edge.Edge.{Edge}
use Rattle.lk_facts.specs.declared.program.Program.{Program}
use Rattle.lk_facts.specs.declared.way.Way.{Way}
use Rattle.lk_trails.proofs.Meaning.{means_all, meaning_out}
use Rattle.lk_trails.proofs.Parting.{no_creation}
use Rattle.lk_trails.specs.Holding.{Owned, AreKept, OwnedGoesOn}
use Rattle.lk_trails.specs.Holding.AreKept.{none, before, own}
use Rattle.lk_trails.specs.Named.{Means, Holds}
use Rattle.lk_trails.specs.Trails.{Stay, Left, first_of, HasCreation, GoesInto, Enters, IsLinked}
use Rattle.lk_trails.specs.Trails.GoesInto.{run, start}
use Rattle.lk_trails.specs.Trails.HasCreation.{here as created_here, beyond}
use Rattle.lk_trails.specs.Trails.IsLinked.{only, more}

-- ---- lists and frames

-- whether a frame was left by a creation is decided
pub has_creation : (left : List Left) → HasCreation left ⊎ (HasCreation left → ⊥)
has_creation [] = inr (λ created. no_creation created refl)
has_creation (x ∷ rest) = by x.created refl (has_creation rest)
  where
    neither : x.created ≡ false → (HasCreation rest → ⊥) → HasCreation (x ∷ rest) → ⊥
    neither called lacks (created_here x rest is) = false≢true (sym called ∙ is)
    neither called lacks (beyond x rest created) = lacks created

    by : (b : Bool) → x.created ≡ b → HasCreation rest ⊎ (HasCreation rest → ⊥) → HasCreation (x ∷ rest) ⊎ (HasCreation (x ∷ rest) → ⊥)
    by true is below = inl (created_here x rest is)
    by false is (inl created) = inl (beyond x rest created)
    by false is (inr lacks) = inr (neither is lacks)

-- where none was, the first one was left by a call, and none of the others was
pub first_called : (x : Left) (rest : List Left) → (HasCreation (x ∷ rest) → ⊥) → x.created ≡ false
first_called x rest lacks = by x.created refl
  where
    by : (b : Bool) → x.created ≡ b → x.created ≡ false
    by true is = absurd (lacks (created_here x rest is))
    by false is = is

-- a point stands in one function
pub one_function : (program : Program) (p f g : ℕ) → function_at program p ≡ Some f → function_at program p ≡ Some g → f ≡ g
one_function program p f g first second = same_Some f g (sym first ∙ second)

module _ (basis : Basis) where
  -- what a call goes into it runs
  pub runs_of : {p f g : ℕ} {way : Way} {created : Bool} → GoesInto basis p f way g created → created ≡ false → Runs basis p f way g
  runs_of (run runs) called = runs
  runs_of (start starts) called = absurd (false≢true (sym called))

  pub runs_in : {p f g : ℕ} {way : Way} → Runs basis p f way g → function_at basis.program p ≡ Some f
  runs_in (Runs.call g i does site) = does.of
  runs_in (Runs.pointer g a i does may) = does.of

  pub runs_live : {p f g : ℕ} {way : Way} → Runs basis p f way g → live_at basis.program p ≡ true
  runs_live (Runs.call g i does site) = does.live
  runs_live (Runs.pointer g a i does may) = does.live

  pub frees_in : {p f y : ℕ} → Frees basis p f y → function_at basis.program p ≡ Some f
  frees_in (Frees.frees a does target) = does.of

  -- the last frame of a trail stands at a live point
  pub top_live : {left : List Left} {top : Stay} → IsLinked basis left top → live_at basis.program top.point ≡ true
  top_live (only top f live stands) = live
  top_live (more x rest top enters linked) = top_live linked

module _ (basis : Basis) (es : List Edge) (held : LockSets) (closed : IsClosed es basis.labels basis.flow) (sets : AreClosedLockSets basis held) where
  -- the function of the stay may release a label that means the place there
  record ReleasesAt (o : ℕ) (h : List ℕ) (s : Stay) : Type 0 where
    pub g : ℕ
    pub y : ℕ
    pub stands : function_at basis.program s.point ≡ Some g
    pub releases : release_test held g y ≡ true
    pub means : Means basis.labels es o h y s.context

  -- what a frame drops where it went into a function: a label that means the place
  record DropsAt (o : ℕ) (h : List ℕ) (s : Stay) : Type 0 where
    pub f : ℕ
    pub g : ℕ
    pub way : Way
    pub y : ℕ
    pub d : ℕ
    pub runs : Runs basis s.point f way g
    pub releases : release_test held g y ≡ true
    pub over : Over basis.flow way y d
    pub means : Means basis.labels es o h d s.context

  called_drops : (o : ℕ) (h : List ℕ) (out to : Stay) (created : Bool) → is_origin_at basis.labels o ≡ true → Enters basis out created to → created ≡ false → ReleasesAt o h to → DropsAt o h out
  called_drops o h out to created is_origin enters called below =
      let same : enters.g ≡ below.g = one_function basis.program to.point enters.g below.g enters.stands below.stands in
      let outside = meaning_out es basis.labels basis.flow closed o below.y h out.context enters.way is_origin (subst (λ c. Means basis.labels es o h below.y c) enters.inside below.means) in
      record {
        f = enters.f;
        g = enters.g;
        way = enters.way;
        y = below.y;
        d = outside.0;
        runs = runs_of basis enters.goes called;
        releases = subst (λ n. release_test held n below.y ≡ true) (sym same) below.releases;
        over = outside.1;
        means = outside.2;
      }

  released_there : (o : ℕ) (h : List ℕ) (s : Stay) → DropsAt o h s → ReleasesAt o h s
  released_there o h s drops = record {
    g = drops.f;
    y = drops.d;
    stands = runs_in basis drops.runs;
    releases = sets.released.callee s.point drops.f drops.g drops.y drops.d drops.way drops.runs drops.releases drops.over;
    means = drops.means;
  }

  -- the function of the first frame may release what the last one frees, where all were left by calls
  released_down : {left : List Left} {top : Stay} → IsLinked basis left top → (HasCreation left → ⊥) → (f y o : ℕ) (h : List ℕ) → Frees basis top.point f y → is_origin_at basis.labels o ≡ true →
      Means basis.labels es o h y top.context → ReleasesAt o h (first_of left top)
  released_down (only top g live stands) lacks f y o h freeing is_origin means =
      record { g = f; y = y; stands = frees_in basis freeing; releases = sets.released.itself top.point f y freeing; means = means }
  released_down (more x rest top enters linked) lacks f y o h freeing is_origin means =
      let below = released_down linked (λ created. lacks (beyond x rest created)) f y o h freeing is_origin means in
      released_there o h x.at (called_drops o h x.at (first_of rest top) x.created is_origin enters (first_called x rest lacks) below)

  -- So each frame that was left by a call, from the thread's first one on, may drop each label that may mean what the last one frees.
  pub drops_down : (x : Left) (rest : List Left) (top : Stay) → Enters basis x.at x.created (first_of rest top) → IsLinked basis rest top → (HasCreation (x ∷ rest) → ⊥) → (f y o : ℕ) (h : List ℕ) →
      Frees basis top.point f y → is_origin_at basis.labels o ≡ true → Means basis.labels es o h y top.context → (z : ℕ) → basis.flow.all z o ≡ true →
      MayDrop basis (says (release_test held)) x.at.point z
  drops_down x rest top enters linked lacks f y o h freeing is_origin means z may =
      let below = released_down linked (λ created. lacks (beyond x rest created)) f y o h freeing is_origin means in
      let drops = called_drops o h x.at (first_of rest top) x.created is_origin enters (first_called x rest lacks) below in
      (drops.d, Drops.callee drops.runs drops.releases drops.over, (o, may, means_all es basis.labels basis.flow closed o drops.d h x.at.context is_origin drops.means))

  -- ---- what is kept stays owned

  module _ (old new : Owned basis es held) where
    -- what the last frame's point may not drop is owned after its step, in whatever frame
    pub kept_owned : (top : Stay) → OwnedGoesOn basis es held top old new → (x : ℕ) (c : List ℕ) →
        ((f y o : ℕ) (h : List ℕ) → Frees basis top.point f y → is_origin_at basis.labels o ≡ true → Means basis.labels es o h y top.context → basis.flow.all x o ≡ true → ⊥) →
        Holds basis.labels es old x c → Holds basis.labels es new x c
    kept_owned top goes_on x c not_freed holds = elim (goes_on.kept holds.origin holds.home holds.is_owned) [
      | inl still ↦ record { origin = holds.origin; home = holds.home; is_owned = still; is_origin = holds.is_origin; means = holds.means }
      | inr freed ↦ absurd (not_freed freed.0 freed.1 holds.origin holds.home freed.2 freed.3 freed.4
          (means_all es basis.labels basis.flow closed holds.origin x holds.home c holds.is_origin holds.means))
    ]

    -- so what frames keep stays owned by a step of the last one
    pub kept_down : {left : List Left} {top : Stay} → OwnedGoesOn basis es held top old new → IsLinked basis left top → AreKept basis es held old left → AreKept basis es held new left
    kept_down goes_on linked none = none
    kept_down goes_on (more x rest top enters linked) (before _ _ created kept) = before x rest created (kept_down goes_on linked kept)
    kept_down goes_on (more x rest top enters linked) (own _ _ holds kept) = elim (has_creation (x ∷ rest)) [
      | inl created ↦ before x rest created (kept_down goes_on linked kept)
      | inr lacks ↦ own x rest
          (λ z keeps. kept_owned top goes_on z x.at.context
          (λ f y o h freeing is_origin means may. keeps.1 (drops_down x rest top enters linked lacks f y o h freeing is_origin means z may)) (holds z keeps))
          (kept_down goes_on linked kept)
    ]
