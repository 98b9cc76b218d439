-- The access of a thread is an item of each function on its trail, and each lock of such an item means a mutex that the thread owns.
use Rattle.std.proofs.Common.{◌≡◌, ℕ, Bool, true, false, List, ◌∷◌, Some, inl, inr, refl, sym, subst, ◌∙◌}
use Rattle.std.proofs.lemmas.Bool.{false≢true}
use Rattle.lk_facts.specs.Analysis.{held_table}
use Rattle.lk_facts.specs.Basis.{Basis}
use Rattle.lk_facts.specs.Doing.{Accesses, Starts}
use Rattle.lk_facts.specs.Items.{ItemTest, LockTest, Rises, PointItem, HasLock}
use Rattle.lk_facts.specs.Labels.{is_origin_at}
use Rattle.lk_facts.specs.PathTables.{IsClosed}
use Rattle.lk_facts.specs.Program.{function_at}
use Rattle.lk_facts.specs.declared.edge.Edge.{Edge}
use Rattle.lk_facts.specs.declared.source.Source.{Source}
use Rattle.lk_facts.specs.declared.source.Source.TheVariants.{OwnAccess, ItemBelow}
use Rattle.lk_facts.specs.declared.way.Way.{Way}
use Rattle.lk_trails.proofs.Dropping.{one_function, runs_in}
use Rattle.lk_trails.proofs.Meaning.{meaning_out, lock_out}
use Rattle.lk_trails.proofs.Parting.{no_creation}
use Rattle.lk_trails.specs.Holding.{Owned, HoldsAt, HoldsKept, AreKept}
use Rattle.lk_trails.specs.Holding.AreKept.{before, own}
use Rattle.lk_trails.specs.Named.{Means, Holds}
use Rattle.lk_trails.specs.Rising.{Tables, AreClosedTables}
use Rattle.lk_trails.specs.Trails.{Stay, Left, first_of, HasCreation, GoesInto, Enters, IsLinked}
use Rattle.lk_trails.specs.Trails.GoesInto.{run, start}
use Rattle.lk_trails.specs.Trails.HasCreation.{here as created_here, beyond}
use Rattle.lk_trails.specs.Trails.IsLinked.{only, more}

module _ (basis : Basis) where
  starts_in : {p f g : ℕ} {way : Way} → Starts basis p f way g → function_at basis.program p ≡ Some f
  starts_in (Starts.create g i does site) = does.of

  pub goes_in : {p f g : ℕ} {way : Way} {created : Bool} → GoesInto basis p f way g created → function_at basis.program p ≡ Some f
  goes_in (run runs) = runs_in basis runs
  goes_in (start starts) = starts_in starts

  accesses_in : {p f x : ℕ} → Accesses basis p f x → function_at basis.program p ≡ Some f
  accesses_in (Accesses.reads a does target) = does.of
  accesses_in (Accesses.writes a does target) = does.of

  rises_in : {p f g : ℕ} {way : Way} {below above : Bool} → Rises basis p f way g below above → function_at basis.program p ≡ Some f
  rises_in (Rises.run runs) = runs_in basis runs
  rises_in (Rises.start starts) = starts_in starts

  -- a point has items of its own function
  pub item_function : {has : ItemTest} {p f s a : ℕ} {source : Source} {child : Bool} → PointItem basis has p f source child s a → function_at basis.program p ≡ Some f
  item_function (PointItem.accessed here) = accesses_in here
  item_function (PointItem.risen rises here over) = rises_in rises

  -- what an item below is at the frame x, which went into the function g: a child item if a creation comes from there on
  pub record Up (x : Left) (rest : List Left) (f g : ℕ) (way : Way) (child : Bool) : Type 0 where
    pub above : Bool
    pub rises : Rises basis x.at.point f way g child above
    pub started : HasCreation (x ∷ rest) → above ≡ true

  pub goes_up : (x : Left) (rest : List Left) {f g : ℕ} {way : Way} {created : Bool} → GoesInto basis x.at.point f way g created → x.created ≡ created →
      (child : Bool) → (HasCreation rest → child ≡ true) → Up x rest f g way child
  goes_up x rest (run runs) called child started = record { above = child; rises = Rises.run runs; started = by }
    where
      by : HasCreation (x ∷ rest) → child ≡ true
      by (created_here _ _ is) = absurd (false≢true (sym called ∙ is))
      by (beyond _ _ created) = started created
  goes_up x rest (start starts) created child started = record { above = true; rises = Rises.start starts; started = λ some. refl }

module _ (basis : Basis) (es : List Edge) (tables : Tables) (closed : IsClosed es basis.labels basis.flow) (rules : AreClosedTables basis tables) (owned : Owned basis es tables.held) where
  pub kept_rest : {x : Left} {rest : List Left} → AreKept basis es tables.held owned (x ∷ rest) → AreKept basis es tables.held owned rest
  kept_rest (before x rest created kept) = kept
  kept_rest (own x rest holds kept) = kept

  -- where an own item is above, no creation is on the trail, so the frame keeps what its lock sets keep
  kept_first : {x : Left} {rest : List Left} → AreKept basis es tables.held owned (x ∷ rest) → (above : Bool) → (HasCreation (x ∷ rest) → above ≡ true) →
      above ≡ false → HoldsKept basis es tables.held owned x.at
  kept_first (before x rest created kept) above started is_own = absurd (false≢true (sym is_own ∙ started created))
  kept_first (own x rest holds kept) above started is_own = holds

  -- Where each lock of what is below means an owned mutex, each of its locks above does.
  pub locks_up : (x : Left) (rest : List Left) (to : Stay) (enters : Enters basis x.at x.created to) → AreKept basis es tables.held owned (x ∷ rest) →
      (above : Bool) → (HasCreation (x ∷ rest) → above ≡ true) → (locks : LockTest) (child : Bool) (s a : ℕ) →
      ((y : ℕ) → locks enters.g child s a y ≡ true → Holds basis.labels es owned y to.context) →
      (z : ℕ) → HasLock basis (held_table tables.held) locks x.at.point (ItemBelow enters.way enters.g child s) above a z → Holds basis.labels es owned z x.at.context
  locks_up x rest to enters kept above started locks child s a below z has = elim has [
    | inl risen ↦ lock_out es basis.labels basis.flow closed owned z risen.0 x.at.context enters.way risen.2
        (subst (λ c. Holds basis.labels es owned risen.0 c) enters.inside (below risen.0 risen.1))
    | inr stays ↦ kept_first kept above started stays.0 z (rules.lock_sets.keep x.at.point z stays.1)
  ]

  -- an item of a frame's point for the access a, which means the place there; all its locks are owned
  pub record Raised (o : ℕ) (h : List ℕ) (a : ℕ) (left : List Left) (s : Stay) : Type 0 where
    pub f : ℕ
    pub source : Source
    pub child : Bool
    pub subject : ℕ
    pub item : PointItem basis tables.has s.point f source child subject a
    pub means : Means basis.labels es o h subject s.context
    pub started : HasCreation left → child ≡ true
    pub locks : (x : ℕ) → HasLock basis (held_table tables.held) tables.item_locks s.point source child a x → Holds basis.labels es owned x s.context

  -- the thread stands at the access a of the place, and owns what the lock sets have there
  pub record Stands (o : ℕ) (h : List ℕ) (a : ℕ) (top : Stay) : Type 0 where
    pub holds : HoldsAt basis es tables.held owned top
    pub at : top.point ≡ a
    pub f : ℕ
    pub label : ℕ
    pub accesses : Accesses basis a f label
    pub means : Means basis.labels es o h label top.context

  item_up : (o : ℕ) (h : List ℕ) (a : ℕ) → is_origin_at basis.labels o ≡ true → (x : Left) (rest : List Left) (to : Stay) → Enters basis x.at x.created to →
      AreKept basis es tables.held owned (x ∷ rest) → Raised o h a rest to → Raised o h a (x ∷ rest) x.at
  item_up o h a is_origin x rest to enters kept below =
      let same : below.f ≡ enters.g = one_function basis.program to.point below.f enters.g (item_function basis below.item) enters.stands in
      let item = subst (λ n. PointItem basis tables.has to.point n below.source below.child below.subject a) same below.item in
      let has = rules.items.closed to.point enters.g below.source below.child below.subject a item in
      let out = meaning_out es basis.labels basis.flow closed o below.subject h x.at.context enters.way is_origin (subst (λ c. Means basis.labels es o h below.subject c) enters.inside below.means) in
      let up = goes_up basis x rest enters.goes refl below.child below.started in
      record {
        f = enters.f;
        source = ItemBelow enters.way enters.g below.child below.subject;
        child = up.above;
        subject = out.0;
        item = PointItem.risen up.rises has out.1;
        means = out.2;
        started = up.started;
        locks = locks_up x rest to enters kept up.above up.started tables.item_locks below.child below.subject a
            (λ y is. below.locks y (rules.items.within to.point enters.g below.source below.child below.subject a y item is));
      }

  -- so the first frame of a trail has an item for the access of the last one
  pub items_rise : {left : List Left} {top : Stay} → IsLinked basis left top → AreKept basis es tables.held owned left → (o : ℕ) (h : List ℕ) (a : ℕ) →
      is_origin_at basis.labels o ≡ true → Stands o h a top → Raised o h a left (first_of left top)
  items_rise (only top g live stands) kept o h a is_origin there = record {
    f = there.f;
    source = OwnAccess;
    child = false;
    subject = there.label;
    item = subst (λ n. PointItem basis tables.has n there.f OwnAccess false there.label a) (sym there.at) (PointItem.accessed there.accesses);
    means = there.means;
    started = λ created. absurd (no_creation created refl);
    locks = there.holds;
  }
  items_rise (more x rest top enters linked) kept o h a is_origin there =
      item_up o h a is_origin x rest (first_of rest top) enters kept (items_rise linked (kept_rest kept) o h a is_origin there)
