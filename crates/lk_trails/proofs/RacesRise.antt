-- Two accesses to one place along trails that have parted are a conflict of the frame at which these part. So main has racing items of both, and
-- each lock of these means a mutex that the thread of the access owns.
use Rattle.std.proofs.Common.{◌≡◌, ◌⊎◌, ℕ, Bool, true, List, ◌∷◌, Some, ⊎_elim, inl, inr, refl, sym, subst, ◌∙◌}
use Rattle.lk_facts.specs.Analysis.{held_table}
use Rattle.lk_facts.specs.Basis.{Basis}
use Rattle.lk_facts.specs.Items.{PointItem, HasLock}
use Rattle.lk_facts.specs.Labels.{is_origin_at}
use Rattle.lk_facts.specs.Lowered.{IsLowered}
use Rattle.lk_facts.specs.PathTables.{IsClosed}
use Rattle.lk_facts.specs.Program.{IsLocation, function_at, writes_at}
use Rattle.lk_facts.specs.Racing.{Conflict, Conflicts}
use Rattle.lk_facts.specs.Reach.{After, Plus}
use Rattle.lk_facts.specs.declared.edge.Edge.{Edge}
use Rattle.lk_facts.specs.declared.program.Program.{Program}
use Rattle.lk_trails.proofs.Dropping.{one_function}
use Rattle.lk_trails.proofs.ItemsRise.{Raised, Stands, goes_in, goes_up, item_function, items_rise, kept_rest, locks_up}
use Rattle.lk_trails.proofs.Meaning.{means_all}
use Rattle.lk_trails.specs.Holding.{Owned, AreKept}
use Rattle.lk_trails.specs.Named.{Holds}
use Rattle.lk_trails.specs.Rising.{Tables, AreClosedTables, setting_of}
use Rattle.lk_trails.specs.Trails.{Stay, Left, Trail, first_of, HasCreation, Enters, IsLinked, IsFromMain, Parts, ArePast}
use Rattle.lk_trails.specs.Trails.IsLinked.{more}
use Rattle.lk_trails.specs.Trails.Parts.{same, apart}
use Rattle.lk_trails.proofs.Statements.{Accessing, IsRacingItem, RacingItemsRise}

-- control stays in the function
pub function_after : (program : Program) → IsLowered program → {p q : ℕ} → After program p q → function_at program q ≡ function_at program p
function_after program lowered (Plus.one {a} {b} next) = lowered.successors a b next.0
function_after program lowered (Plus.more {a} {b} {c} next rest) = function_after program lowered rest ∙ lowered.successors a b next.0

module _ (basis : Basis) (es : List Edge) (tables : Tables) (closed : IsClosed es basis.labels basis.flow) (rules : AreClosedTables basis tables) where
  -- the function of a frame has a racing item for the access a, and all its locks are owned
  record RacesAt (owned : Owned basis es tables.held) (o a : ℕ) (left : List Left) (s : Stay) : Type 0 where
    pub f : ℕ
    pub child : Bool
    pub stands : function_at basis.program s.point ≡ Some f
    pub races : tables.races f child o a ≡ true
    pub started : HasCreation left → child ≡ true
    pub locks : (x : ℕ) → tables.race_locks f child o a x ≡ true → Holds basis.labels es owned x s.context

  race_up : (owned : Owned basis es tables.held) (o a : ℕ) (x : Left) (rest : List Left) (to : Stay) → Enters basis x.at x.created to →
      AreKept basis es tables.held owned (x ∷ rest) → RacesAt owned o a rest to → RacesAt owned o a (x ∷ rest) x.at
  race_up owned o a x rest to enters kept below =
      let stands_in : below.f ≡ enters.g = one_function basis.program to.point below.f enters.g below.stands enters.stands in
      let race = subst (λ n. tables.races n below.child o a ≡ true) stands_in below.races in
      let up = goes_up basis x rest enters.goes refl below.child below.started in
      record {
        f = enters.f;
        child = up.above;
        stands = goes_in basis enters.goes;
        races = rules.racing.risen x.at.point enters.f enters.g o a enters.way below.child up.above up.rises race;
        started = up.started;
        locks = λ z is. locks_up basis es tables closed rules owned x rest to enters kept up.above up.started tables.race_locks below.child o a
            (λ y has. below.locks y (subst (λ n. tables.race_locks n below.child o a y ≡ true) (sym stands_in) has)) z
            (rules.racing.within.risen x.at.point enters.f enters.g o a z enters.way below.child up.above up.rises race is);
      }

  -- in main it is a racing item of main
  in_main : (owned : Owned basis es tables.held) (o a : ℕ) (t : Trail) → IsFromMain basis t → RacesAt owned o a t.left (first_of t.left t.top) → IsRacingItem basis es tables owned o a
  in_main owned o a t from_main racing =
      let is_main : racing.f ≡ basis.program.main = one_function basis.program (first_of t.left t.top).point racing.f basis.program.main racing.stands from_main.main in
      record {
        child = racing.child;
        races = subst (λ n. tables.races n racing.child o a ≡ true) is_main racing.races;
        locks = λ x has. subst (λ c. Holds basis.labels es owned x c) from_main.empty (racing.locks x (subst (λ n. tables.race_locks n racing.child o a x ≡ true) (sym is_main) has));
      }

  module _ (lowered : IsLowered basis.program) (mine yours : Owned basis es tables.held) (o a b : ℕ) (h : List ℕ) (location : IsLocation basis.program o)
      (is_origin : is_origin_at basis.labels o ≡ true) (write : (writes_at basis.program a ≡ true) ⊎ (writes_at basis.program b ≡ true)) where
    -- The two items of the frame at which trails part are a conflict there: of the earlier trail, which leaves it by a creation or through one below, it is a child item.
    conflict_there : (left : List Left) (s : Stay) (later : List Left) (t : Stay) → HasCreation left → After basis.program s.point t.point → Raised basis es tables closed rules mine o h a left s →
        Raised basis es tables closed rules yours o h b later t → RacesAt mine o a left s × RacesAt yours o b later t
    conflict_there left s later t created after early late =
        let is_child : early.child ≡ true = early.started created in
        let stands_first : function_at basis.program s.point ≡ Some early.f = item_function basis early.item in
        let stands_second : function_at basis.program t.point ≡ Some early.f = function_after basis.program lowered after ∙ stands_first in
        let one : late.f ≡ early.f = one_function basis.program t.point late.f early.f (item_function basis late.item) stands_second in
        let conflict : Conflict basis (setting_of tables) early.f o s.point early.source early.subject a t.point late.source late.child late.subject b = record {
          location = location;
          first = subst (λ c. PointItem basis tables.has s.point early.f early.source c early.subject a) is_child early.item;
          second = subst (λ n. PointItem basis tables.has t.point n late.source late.child late.subject b) one late.item;
          later = rules.order s.point t.point after;
          first_may = means_all es basis.labels basis.flow closed o early.subject h s.context is_origin early.means;
          second_may = means_all es basis.labels basis.flow closed o late.subject h t.context is_origin late.means;
          write = write;
        } in (
          record {
            f = early.f;
            child = true;
            stands = stands_first;
            races = rules.racing.conflict early.f o s.point early.source true a (Conflicts.first conflict);
            started = λ some. refl;
            locks = λ x has. early.locks x
                (subst (λ c. HasLock basis (held_table tables.held) tables.item_locks s.point early.source c a x) (sym is_child)
                (rules.racing.within.conflict early.f o s.point early.source true a x (Conflicts.first conflict) has));
          },
          record {
            f = early.f;
            child = late.child;
            stands = stands_second;
            races = rules.racing.conflict early.f o t.point late.source late.child b (Conflicts.second conflict);
            started = late.started;
            locks = λ x has. late.locks x (rules.racing.within.conflict early.f o t.point late.source late.child b x (Conflicts.second conflict) has);
          },
        )

    -- both racing items rise from there to the first frames of both trails
    races_from : {earlier later : List Left} {top : Stay} (end : Stay) → Parts basis.program earlier later top → IsLinked basis earlier end → IsLinked basis later top →
        AreKept basis es tables.held mine earlier → AreKept basis es tables.held yours later → Stands basis es tables closed rules mine o h a end →
        Stands basis es tables closed rules yours o h b top → RacesAt mine o a earlier (first_of earlier end) × RacesAt yours o b later (first_of later top)
    races_from end (same x earlier later top parts) (more _ _ _ enters linked) (more _ _ _ enters' linked') kept kept' stands stands' =
        let below = races_from end parts linked linked' (kept_rest basis es tables closed rules mine kept) (kept_rest basis es tables closed rules yours kept') stands stands' in
        (race_up mine o a x earlier (first_of earlier end) enters kept below.0, race_up yours o b x later (first_of later top) enters' kept' below.1)
    races_from end (apart x earlier later top context after created) linked linked' kept kept' stands stands' =
        conflict_there (x ∷ earlier) x.at later (first_of later top) created after (items_rise basis es tables closed rules mine linked kept o h a is_origin stands)
        (items_rise basis es tables closed rules yours linked' kept' o h b is_origin stands')

  stands_there : (owned : Owned basis es tables.held) (o a : ℕ) (h : List ℕ) (t : Trail) → Accessing basis es tables owned o h a t → Stands basis es tables closed rules owned o h a t.top
  stands_there owned o a h t is = record { holds = is.held.at; at = is.at; f = is.f; label = is.label; accesses = is.accesses; means = is.means }

  first_parts : IsLowered basis.program → (mine yours : Owned basis es tables.held) (o a b : ℕ) (h : List ℕ) (s t : Trail) → IsLocation basis.program o → is_origin_at basis.labels o ≡ true →
      Accessing basis es tables mine o h a s → Accessing basis es tables yours o h b t → Parts basis.program s.left t.left t.top →
      (writes_at basis.program a ≡ true) ⊎ (writes_at basis.program b ≡ true) → IsRacingItem basis es tables mine o a × IsRacingItem basis es tables yours o b
  first_parts lowered mine yours o a b h s t location is_origin one other parts write =
      let both = races_from lowered mine yours o a b h location is_origin write s.top parts one.from_main.linked other.from_main.linked one.held.kept other.held.kept
      (stands_there mine o a h s one) (stands_there yours o b h t other) in
      (in_main mine o a s one.from_main both.0, in_main yours o b t other.from_main both.1)

-- A step leads from a point to another one of the same function in lowered programs, so these have the law.
pub races_rise : (basis : Basis) → IsLowered basis.program → (es : List Edge) (tables : Tables) → RacingItemsRise basis es tables
races_rise basis lowered es tables = record {
  rise = λ closed rules mine yours o a b h s t location is_origin one other past write. elim past [
    | ArePast.first parts ↦ first_parts basis es tables closed rules lowered mine yours o a b h s t location is_origin one other parts write
    | ArePast.second parts ↦
        let both = first_parts basis es tables closed rules lowered yours mine o b a h t s location is_origin other one parts (⊎_elim inr inl write) in
        (both.1, both.0)
  ];
}
