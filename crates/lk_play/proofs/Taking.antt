-- How a play goes on, from turn to turn and from step to step; and that what it tells is true.
use Rattle.std.proofs.Common.{◌≡◌, ◌∙◌, ℕ, zero, suc, ◌+◌, ◌<◌, ◌≤◌, Bool, true, false, not, cond, ◌||◌, ◌==◌, if◌then◌else◌, List, [], ◌∷◌, ◌++◌, Option, None, Some, length, drop, get_or, map, add-one, drop-cons, All, refl, sym, ap, subst, arith}
use Rattle.std.proofs.lemmas.Bool.{eq-eqb}
use Rattle.std.proofs.lemmas.List.{append-nil, append_assoc}
use Rattle.std.proofs.lemmas.List.Elements.{All-nil, All-cons, All-append}
use Rattle.std.proofs.lemmas.Option.{slice_get_within, none-some, same_Some}
use Rattle.std.specs.List.{filter}
use Rattle.std.specs.Option.{option_and_then, option_map}
use Rattle.std.specs.Prelude.{slice_get}
use Rattle.lk_birth.specs.Births.{listed}
use Rattle.lk_birth.specs.Starts.{IsSmall, started}
use Rattle.lk_cells.specs.declared.state.State.{State}
use Rattle.lk_cells.specs.declared.state.Thread.{Thread}
use Rattle.lk_facts.specs.Program.{action_at}
use Rattle.lk_facts.specs.declared.point.Point.{Point}
use Rattle.lk_facts.specs.declared.program.Program.{Program}
use Rattle.lk_meaning.specs.Locations.{HasLocation}
use Rattle.lk_meaning.specs.Reached.{Choice, Leads, Run}
use Rattle.lk_meaning.specs.Runs as runs
use Rattle.lk_meaning.specs.Stepping.{Moves}
use Rattle.lk_meaning.specs.Steps.{Step, thread_at}
use Rattle.lk_meaning.specs.declared.stepping.Event.{Event}
use Rattle.lk_meaning.specs.declared.touching.Touched.{Touched}
use Rattle.lk_play.specs.Calls.{BeginsAt, Comes, EndsSo, GoesOn, IsLineThere}
use Rattle.lk_play.specs.Played.{IsTrueRace}
use Rattle.lk_play.specs.Plays.{Asks, for_more, IsPlay, IsTold, Plays, Stops, TellsAccess, is_done, has_touched, has_moved, has_stopped, at_limit, most_steps, once, until}
use Rattle.lk_play.specs.Races.{AreRaced, HasRaceAt, race_lines}
use Rattle.lk_play.specs.declared.lines.Ending.{Ending}
use Rattle.lk_play.specs.declared.lines.Ending.TheVariants as ends
use Rattle.lk_play.specs.declared.lines.Line.{Line}
use Rattle.lk_play.specs.declared.lines.Line.TheVariants.{Race, End}
use Rattle.lk_play.specs.declared.running.Coming.{Coming}
use Rattle.lk_play.specs.declared.running.Coming.TheVariants.{On, Over}
use Rattle.lk_play.specs.declared.running.Telling.{Telling}
use Rattle.lk_play.specs.declared.schedules.Turn.{Turn}
use Rattle.lk_sets.specs.Ids.{has_id}

-- ---- lists

pub races_more : (before : List ℕ) (a b : List ℕ) → race_lines before (a ++ b) ≡ race_lines before a ++ race_lines before b
races_more before [] b = refl
races_more before (n ∷ a) b = by (has_id before n) (races_more before a b)
  where
    by : (has : Bool) → race_lines before (a ++ b) ≡ race_lines before a ++ race_lines before b →
        map (λ k. Race k) (cond (not has) (n ∷ filter (λ k. not (has_id before k)) (a ++ b)) (filter (λ k. not (has_id before k)) (a ++ b)))
        ≡ map (λ k. Race k) (cond (not has) (n ∷ filter (λ k. not (has_id before k)) a) (filter (λ k. not (has_id before k)) a)) ++ race_lines before b
    by true more = more
    by false more = ap (λ ls. Race n ∷ ls) more

pub race_told : (before : List ℕ) (n : ℕ) → has_id before n ≡ false → race_lines before (n ∷ []) ≡ Race n ∷ []
race_told before n h = rw h refl

pub race_known : (before : List ℕ) (n : ℕ) → has_id before n ≡ true → race_lines before (n ∷ []) ≡ []
race_known before n h = rw h refl

abbrev turn_of : ℕ → ℕ → Bool → Turn
turn_of t w b = record { thread = t; word = w; until = b }

pub turn_until : (turn : Turn) → turn.until ≡ true → until turn.thread turn.word ≡ turn
turn_until turn h = ap (turn_of turn.thread turn.word) (sym h)

pub turn_once : (turn : Turn) → turn.until ≡ false → once turn.thread turn.word ≡ turn
turn_once turn h = ap (turn_of turn.thread turn.word) (sym h)

pub drop_at : {X : Type 0} (xs : List X) (i : ℕ) (d : X) → i < length xs → drop i xs ≡ get_or xs i d ∷ drop (i + 1) xs
drop_at xs i d h = rw (add-one) (drop-cons xs i d h)

pub drop_past : {X : Type 0} (xs : List X) (i : ℕ) → length xs ≤ i → drop i xs ≡ []
drop_past [] zero h = refl
drop_past [] (suc i) h = refl
drop_past (y ∷ xs) zero h = absurd (omega (arith, h))
drop_past (y ∷ xs) (suc i) h = drop_past xs i (omega (arith, h))

-- ---- going on

module _ (program : Program) where
  pub stays : (s : State) (telling : Telling) (turns : List Turn) → IsSmall s → GoesOn program s telling turns telling s turns
  stays s telling turns small = record {
    small = small;
    more = [];
    lines = sym (append-nil telling.lines.items);
    leads = λ after plays. plays;
  }

  pub then_on : {s s2 s3 : State} {a b c : Telling} {x y z : List Turn} → GoesOn program s a x b s2 y → GoesOn program s2 b y c s3 z →
      GoesOn program s a x c s3 z
  then_on {a = a} {c = c} first second = record {
    small = second.small;
    more = first.more ++ second.more;
    lines = second.lines ∙ ap (λ ls. ls ++ second.more) first.lines ∙ append_assoc a.lines.items first.more second.more;
    leads = λ after plays. subst (Plays program _ _ _ _) (sym (append_assoc first.more second.more after)) (first.leads _ (second.leads after plays));
  }

  pub then_ends : {s s2 : State} {a b c : Telling} {x y : List Turn} {ending : Ending} → GoesOn program s a x b s2 y →
      EndsSo program s2 b y c ending → EndsSo program s a x c ending
  then_ends {a = a} {ending = ending} first second = record {
    more = first.more ++ second.more;
    lines = second.lines ∙ ap (λ ls. ls ++ second.more) first.lines ∙ append_assoc a.lines.items first.more second.more;
    plays = subst (Plays program _ _ _ _) (sym (append_assoc first.more second.more (End ending ∷ []))) (first.leads _ second.plays);
  }

  -- the thread of T W * touches a cell
  pub passes : (s : State) (telling : Telling) (t w : ℕ) (rest : List Turn) (touched : Touched) → IsSmall s →
      runs.touch program s t ≡ Some touched → GoesOn program s telling (until t w ∷ rest) telling s rest
  passes s telling t w rest touched small is = record {
    small = small;
    more = [];
    lines = sym (append-nil telling.lines.items);
    leads = λ after plays. has_touched is plays;
  }

  -- no turns are left
  pub no_turns : (s : State) (telling : Telling) → EndsSo program s telling [] telling ends.Schedule
  no_turns s telling = record { more = []; lines = sym (append-nil telling.lines.items); plays = is_done }

  -- a step that isn't taken
  pub stopped : (s : State) (telling : Telling) (t w : ℕ) (ending : Ending) → telling.taken < most_steps → Stops program s t w ending →
      (ahead rest : List Turn) → Asks program s ahead t w rest → EndsSo program s telling ahead telling ending
  stopped s telling t w ending few why ahead rest asks =
      record { more = []; lines = sym (append-nil telling.lines.items); plays = has_stopped asks few why }

  pub limited : (s : State) (telling : Telling) (t w : ℕ) → most_steps ≤ telling.taken → telling.taken ≤ most_steps →
      (ahead rest : List Turn) → Asks program s ahead t w rest → EndsSo program s telling ahead telling ends.Limit
  limited s telling t w many few ahead rest asks =
      let is : telling.taken ≡ most_steps = omega (arith, many, few) in
      record {
        more = [];
        lines = sym (append-nil telling.lines.items);
        plays = subst (λ n. Plays program s telling.raced n ahead (End ends.Limit ∷ [])) (sym is) (at_limit asks);
      }

  -- a step that is taken
  pub moved : (s s2 : State) (old new : Telling) (t w : ℕ) (event : Event) (access : Option Line) → old.taken < most_steps →
      Moves program s t w s2 event → IsTold program s t access → AreRaced program s2 new.raced →
      new.lines.items ≡ old.lines.items ++ (listed access ++ race_lines old.raced new.raced) → new.taken ≡ old.taken + 1 →
      (ahead rest : List Turn) → Asks program s ahead t w rest → GoesOn program s old ahead new s2 rest
  moved s s2 old new t w event access few step told raced lines taken ahead rest asks = record {
    small = step.small;
    more = listed access ++ race_lines old.raced new.raced;
    lines = lines;
    leads = λ after plays.
        subst (Plays program s old.raced old.taken ahead) (sym (append_assoc (listed access) (race_lines old.raced new.raced) after))
        (has_moved access asks few step told raced (subst (λ n. Plays program s2 new.raced n rest after) taken plays));
  }

  -- ---- a step or a turn more

  on_is : {s s2 : State} {old new : Telling} {turns rest : List Turn} {coming : Coming} → coming ≡ On s2 →
      Comes program s old turns new rest coming → GoesOn program s old turns new s2 rest
  on_is {s = s} {old = old} {new = new} {turns = turns} {rest = rest} is comes = subst (Comes program s old turns new rest) is comes

  over_is : {s : State} {old new : Telling} {turns : List Turn} (rest : List Turn) {coming : Coming} {ending : Ending} → coming ≡ Over ending →
      Comes program s old turns new rest coming → EndsSo program s old turns new ending
  over_is {s = s} {old = old} {new = new} {turns = turns} rest is comes = subst (Comes program s old turns new rest) is comes

  module _ (s0 s : State) (old tel new : Telling) (t w : ℕ) (coming : Coming) (none : runs.touch program s t ≡ None)
      (comes : (ahead rest : List Turn) → Asks program s ahead t w rest → Comes program s tel ahead new rest coming) where
    pub step_on : (rest : List Turn) → GoesOn program s0 old (until t w ∷ rest) tel s (until t w ∷ rest) → (s2 : State) → coming ≡ On s2 →
        GoesOn program s0 old (until t w ∷ rest) new s2 (until t w ∷ rest)
    step_on rest goes s2 is = then_on goes (on_is is (comes (until t w ∷ rest) (until t w ∷ rest) (for_more none)))

    pub step_ends : (rest : List Turn) → GoesOn program s0 old (until t w ∷ rest) tel s (until t w ∷ rest) → (ending : Ending) → coming ≡ Over ending →
        EndsSo program s0 old (until t w ∷ rest) new ending
    step_ends rest goes ending is = then_ends goes (over_is (until t w ∷ rest) is (comes (until t w ∷ rest) (until t w ∷ rest) (for_more none)))

  module _ (s0 s : State) (old tel new : Telling) (turns : List Turn) (i : ℕ) (d : Turn) (coming : Coming) (within : i < length turns)
      (goes : GoesOn program s0 old turns tel s (drop i turns)) (comes : (rest : List Turn) → Comes program s tel (get_or turns i d ∷ rest) new rest coming) where
    at : GoesOn program s0 old turns tel s (get_or turns i d ∷ drop (i + 1) turns)
    at = subst (GoesOn program s0 old turns tel s) (drop_at turns i d within) goes

    pub turn_on : (s2 : State) → coming ≡ On s2 → GoesOn program s0 old turns new s2 (drop (i + 1) turns)
    turn_on s2 is = then_on at (on_is is (comes (drop (i + 1) turns)))

    pub turn_ends : (ending : Ending) → coming ≡ Over ending → EndsSo program s0 old turns new ending
    turn_ends ending is = then_ends at (over_is (drop (i + 1) turns) is (comes (drop (i + 1) turns)))

  pub turns_end : (s0 s : State) (old tel : Telling) (turns : List Turn) (i : ℕ) → length turns ≤ i →
      GoesOn program s0 old turns tel s (drop i turns) → EndsSo program s0 old turns tel ends.Schedule
  turns_end s0 s old tel turns i past goes =
      then_ends (subst (GoesOn program s0 old turns tel s) (drop_past turns i past) goes) (no_turns s tel)

  -- what is told of a step
  pub none_told : (s : State) (t : ℕ) (touched : Touched) → runs.touch program s t ≡ Some touched →
      ((n : ℕ) → HasLocation program s touched.cell n → ⊥) → (line : Line) → TellsAccess program s t line → ⊥
  none_told s t touched is none line told =
      let cells : told.touched.cell ≡ touched.cell = ap (λ (x : Touched). x.cell) (same_Some _ _ (sym told.touches ∙ is)) in
      none told.location (subst (λ c. HasLocation program s c told.location) cells told.of)

  -- ---- what is told is there, and true

  leads_on : {s s2 s3 : State} {choices : List Choice} {t w : ℕ} → Leads program s choices s2 → Step program s2 t w s3 →
      Leads program s (choices ++ record { thread = t; word = w } ∷ []) s3
  leads_on Leads.stays step = Leads.goes step Leads.stays
  leads_on (Leads.goes first rest) step = Leads.goes first (leads_on rest step)

  -- of the state that a run comes to
  module _ (P : Line → Type 0) (of_end : (ending : Ending) → P (End ending))
      (of_race : (s : State) (n : ℕ) (choices : List Choice) → Run program [] choices s → HasRaceAt program s n → P (Race n))
      (of_access : (s : State) (t : ℕ) (line : Line) → TellsAccess program s t line → P line) where
    of_listed : (s : State) (t : ℕ) (access : Option Line) → IsTold program s t access → All P (listed access)
    of_listed s t None told = All-nil P
    of_listed s t (Some line) told = All-cons P line [] (of_access s t line told) (All-nil P)

    or_true : (b c : Bool) → c ≡ true → (b || c) ≡ true
    or_true true c h = refl
    or_true false c h = h

    of_races : (s : State) (choices : List Choice) → Run program [] choices s → (before now all : List ℕ) →
        ((n : ℕ) → has_id now n ≡ true → has_id all n ≡ true) → AreRaced program s all → All P (race_lines before now)
    of_races s choices run before [] all within raced = All-nil P
    of_races s choices run before (n ∷ now) all within raced =
        by (has_id before n) (of_races s choices run before now all (λ k h. within k (or_true (n == k) (has_id now k) h)) raced)
      where
        here : HasRaceAt program s n
        here = (raced.each n).0 (within n (ap (λ b. b || has_id now n) (eq-eqb n n refl)))

        by : (has : Bool) → All P (race_lines before now) →
            All P (map (λ k. Race k) (cond (not has) (n ∷ filter (λ k. not (has_id before k)) now) (filter (λ k. not (has_id before k)) now)))
        by true more = more
        by false more = All-cons P (Race n) (race_lines before now) (of_race s n choices run here) more

    of_plays : {s : State} {raced : List ℕ} {taken : ℕ} {turns : List Turn} {lines : List Line} → (choices : List Choice) →
        Run program [] choices s → Plays program s raced taken turns lines → All P lines
    of_plays choices run is_done = All-cons P _ [] (of_end _) (All-nil P)
    of_plays choices run (has_touched is plays) = of_plays choices run plays
    of_plays choices run (has_moved {s = s} {s2 = s2} {raced = raced} {raced2 = raced2} {t = t} {lines = lines} access asks few step told are plays) =
        let on = leads_on run step.step in
        All-append P (listed access) (race_lines raced raced2 ++ lines) (of_listed s t access told)
        (All-append P (race_lines raced raced2) lines (of_races s2 _ on raced raced2 raced2 (λ n h. h) are) (of_plays _ on plays))
    of_plays choices run (has_stopped asks few why) = All-cons P _ [] (of_end _) (All-nil P)
    of_plays choices run (at_limit asks) = All-cons P _ [] (of_end _) (All-nil P)

    pub of_play : (turns : List Turn) (lines : List Line) → IsPlay program turns lines → All P lines
    of_play turns lines play =
        subst (All P) (sym play.is)
        (All-append P (race_lines [] play.raced) play.rest
        (of_races (started program []) [] Leads.stays [] play.raced play.raced (λ n h. h) play.are_raced) (of_plays [] Leads.stays play.plays))

  place_within : (s : State) (n : ℕ) → HasRaceAt program s n → n < length program.places
  place_within s n has = slice_get_within program.places n has.of.place has.of.number

  point_within : (s : State) (t : ℕ) (thread : Thread) (touched : Touched) → thread_at s t ≡ Some thread →
      runs.touch program s t ≡ Some touched → thread.frame.point < length program.points
  point_within s t thread touched there is = by_ended (thread.ended || s.ended) (sym (ap (λ o. option_and_then touch_of o) there) ∙ is)
    where
      touch_of : Thread → Option Touched
      touch_of thread =
          if thread.ended || s.ended then None else option_and_then (runs.touched_by s thread) (action_at program thread.frame.point)

      by_point : (o : Option Point) → slice_get program.points thread.frame.point ≡ o → option_and_then (runs.touched_by s thread) (option_map (λ point. point.action) o) ≡ Some touched →
          thread.frame.point < length program.points
      by_point None e h = absurd (none-some touched h)
      by_point (Some point) e h = slice_get_within program.points thread.frame.point point e

      by_ended : (b : Bool) → (if b then None else option_and_then (runs.touched_by s thread) (action_at program thread.frame.point)) ≡ Some touched →
          thread.frame.point < length program.points
      by_ended true h = absurd (none-some touched h)
      by_ended false h = by_point (slice_get program.points thread.frame.point) refl h

  pub lines_there : (turns : List Turn) (lines : List Line) → IsPlay program turns lines → All (IsLineThere program) lines
  lines_there = of_play (IsLineThere program) (λ ending. tt) (λ s n choices run has. place_within s n has)
      (λ s t line told. subst (IsLineThere program) (sym told.is)
      (slice_get_within program.places told.location told.of.place told.of.number, point_within s t told.thread told.touched told.there told.touches))

  pub races_true : (turns : List Turn) (lines : List Line) → IsPlay program turns lines → All (IsTrueRace program) lines
  races_true = of_play (IsTrueRace program) (λ ending. tt)
      (λ s n choices run has. record { state = s; choices = choices; run = run; raced = has })
      (λ s t line told. subst (IsTrueRace program) (sym told.is) tt)

  -- the lines in all
  pub all_lines : (telling begun : Telling) (turns : List Turn) (ending : Ending) (lines : List Line) → BeginsAt program (started program []) begun →
      EndsSo program (started program []) begun turns telling ending → lines ≡ telling.lines.items ++ End ending ∷ [] →
      IsPlay program turns lines
  all_lines telling begun turns ending lines begins ends is = record {
    raced = begun.raced;
    are_raced = begins.raced;
    rest = ends.more ++ End ending ∷ [];
    plays = subst (λ n. Plays program (started program []) begun.raced n turns (ends.more ++ End ending ∷ [])) begins.taken ends.plays;
    is =
        is ∙ ap (λ ls. ls ++ End ending ∷ []) (ends.lines ∙ ap (λ ls. ls ++ ends.more) begins.lines)
        ∙ append_assoc (race_lines [] begun.raced) ends.more (End ending ∷ []);
  }
