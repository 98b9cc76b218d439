-- Soundness of races: two threads that are about to touch one cell, one of which is to write it, have racing items of main, and own what
-- these are locked by.
use Rattle.std.proofs.Common.{◌≡◌, ◌<◌, ◌⊎◌, ℕ, Bool, true, false, ◌||◌, List, [], ◌∷◌, ◌++◌, Some, length, inl, inr, refl, sym, ap, subst, ◌∙◌, arith, length-append}
use Rattle.std.proofs.lemmas.Option.{slice_get_within}
use Rattle.std.specs.List.{slice_get}
use Rattle.std.specs.Prelude.{◌-◌, unwrap_or}
use Rattle.lk_cells.specs.declared.state.State.{State}
use Rattle.lk_cells.specs.declared.state.Thread.{Thread}
use Rattle.lk_facts.specs.Basis.{Basis}
use Rattle.lk_facts.specs.Labels.{is_origin_at}
use Rattle.lk_facts.specs.Lowered.{IsLowered}
use Rattle.lk_facts.specs.Program.{writes_at}
use Rattle.lk_facts.specs.Verdicts.{IsLockedBy}
use Rattle.lk_facts.specs.declared.edge.Edge.{Edge}
use Rattle.lk_meaning.specs.Locations.{HasLocation}
use Rattle.lk_meaning.specs.Runs.{Race, touch}
use Rattle.lk_meaning.specs.declared.touching.Touched.{Touched}
use Rattle.lk_right.proofs.Doing.{get_last}
use Rattle.lk_right.specs.Contexts.{Contexts, last_of}
use Rattle.lk_right.specs.Laws.{IsAnalysed}
use Rattle.lk_right.specs.Sound.{IsSound, IsFrameSound}
use Rattle.lk_safe.proofs.Accesses.{touches, access_of, accesses_label, no_retake}
use Rattle.lk_safe.proofs.CellPlaces.{is_location, place_of_origin}
use Rattle.lk_safe.proofs.Locks.{owned_place}
use Rattle.lk_safe.proofs.Meant.{PointsAt, pointer_means, means_place}
use Rattle.lk_safe.proofs.TrailLists.{trails_get}
use Rattle.lk_safe.specs.Owners.{IsAt, own_trail, trails_in, owned_by}
use Rattle.lk_safe.specs.Safe.{IsSafe}
use Rattle.lk_safe.specs.Soundness.{IsNoRetake, IsFound, OwnsPlace, RacesAreFound}
use Rattle.lk_safe.specs.Steps.{IsFollowed, ReachedIsSafe}
use Rattle.lk_sound.proofs.CellSoundness.{cells_sound}
use Rattle.lk_sound.proofs.PlaceNumbers.{element_at}
use Rattle.lk_sound.specs.Soundness.{HasOrigin}
use Rattle.lk_trails.proofs.Meaning.{means_all}
use Rattle.lk_trails.specs.Holding.{Owned, AreKept, AreHeld}
use Rattle.lk_trails.specs.Holding.AreKept.{before as kept_before}
use Rattle.lk_trails.specs.Rising.{Tables, AreClosedTables}
use Rattle.lk_trails.specs.Trails.{Left, Trail, HasCreation, IsBirth, whole}
use Rattle.lk_trails.specs.Trails.HasCreation.{here as created_here, beyond}
use Rattle.lk_trails.specs.Trails.IsBirth.{first as first_birth, later as later_birth}
use Rattle.lk_values.specs.declared.cell.Cell.{Cell}
use Rattle.lk_trails.proofs.Statements.{Accessing, IsRacingItem, RacesRise}

-- ---- whole trails

-- of the frames before a creation nothing is asked
module _ (basis : Basis) (es : List Edge) (tables : Tables) (owned : Owned basis es tables.held) where
  abbrev Kept : List Left → Type 0
  Kept left = AreKept basis es tables.held owned left

  created_in : (front : List Left) (x : Left) (left : List Left) → x.created ≡ true → HasCreation ((front ++ x ∷ []) ++ left)
  created_in [] x left created = created_here x left created
  created_in (y ∷ front) x left created = beyond y ((front ++ x ∷ []) ++ left) (created_in front x left created)

  created_kept : (front : List Left) (x : Left) (left : List Left) → x.created ≡ true → Kept left → Kept ((front ++ x ∷ []) ++ left)
  created_kept [] x left created kept = kept_before x left (created_here x left created) kept
  created_kept (y ∷ front) x left created kept = kept_before y ((front ++ x ∷ []) ++ left) (beyond y ((front ++ x ∷ []) ++ left) (created_in front x left created))
      (created_kept front x left created kept)

  birth_kept : {born : List Left} → IsBirth born → (left : List Left) → Kept left → Kept (born ++ left)
  birth_kept first_birth left kept = kept
  birth_kept (later_birth front x created) left kept = created_kept front x left created kept

  whole_held : (born : List Left) (own : Trail) → IsBirth born → AreHeld basis es tables.held owned own → AreHeld basis es tables.held owned (whole born own)
  whole_held born own birth is = record { at = is.at; kept = birth_kept birth own.left is.kept }

module _ (basis : Basis) (es : List Edge) (follows : IsFollowed basis es) (tables : Tables) (contexts : Contexts) (s : State) (sound : IsSound basis.program basis.labels es contexts s)
    (safe : IsSafe basis es tables.held contexts s) where
  abbrev ok : IsAnalysed basis.program basis.labels es
  ok = follows.analysed

  -- ---- the frame in which a thread is

  record Frames (t : ℕ) (thread : Thread) : Type 0 where
    cs : List (List ℕ)
    in_contexts : slice_get contexts.frames t ≡ Some cs
    f : ℕ
    own : IsFrameSound basis.program basis.labels es contexts.homes f (last_of cs) thread.frame

  frames_of_thread : (t : ℕ) (thread : Thread) → slice_get s.threads t ≡ Some thread → Frames t thread
  frames_of_thread t thread there =
      let cs = element_at contexts.frames t (subst (λ n. t < n) (sym sound.threads_many) (slice_get_within s.threads t thread there)) in
      let frames = sound.threads t thread cs.0 there cs.1 in
      let own = frames.each (length thread.below) thread.frame (get_last thread.below thread.frame) in
      let many = frames.many in
      let long = length-append thread.below (thread.frame ∷ []) in
      let last : length cs.0 - 1 ≡ length thread.below = omega (arith, many, long) in
      let context : own.context ≡ last_of cs.0 = sym (ap (λ k. unwrap_or (slice_get cs.0 k) []) last ∙ ap (λ o. unwrap_or o []) own.in_context) in
      record { cs = cs.0; in_contexts = cs.1; f = own.function; own = subst (λ c. IsFrameSound basis.program basis.labels es contexts.homes own.function c thread.frame) context own.sound }

  -- ---- one of the two threads

  -- A thread that is about to touch the cell, which is at the place o of an object at home in h: it is there, and its whole trail leads to the access.
  record Side (o : ℕ) (h : List ℕ) (t : ℕ) (wrote : Bool) : Type 0 where
    thread : Thread
    there : slice_get s.threads t ≡ Some thread
    cs : List (List ℕ)
    in_contexts : slice_get contexts.frames t ≡ Some cs
    born : List Left
    born_at : slice_get safe.pasts.0 t ≡ Some born
    stands : IsNoRetake basis.program thread.frame.point
    writes : writes_at basis.program thread.frame.point ≡ wrote
    is_origin : is_origin_at basis.labels o ≡ true
    accessing : Accessing basis es tables (owned_by basis contexts s t) o h thread.frame.point (whole born (own_trail thread cs))

  module _ (at : Cell) (o : ℕ) (h : List ℕ) (is_at : IsAt basis contexts.homes at o h) where
    side : (t : ℕ) (wrote : Bool) → touch basis.program s t ≡ Some (record { cell = at; writes = wrote }) → Side o h t wrote
    side t wrote touching =
        let touched : Touched = record { cell = at; writes = wrote } in
        let by = touches basis.program s t touched touching in
        let frames = frames_of_thread t by.thread by.there in
        let c = last_of frames.cs in
        let access = access_of basis.program basis.labels es ok contexts.homes s frames.f c by.thread frames.own by.action by.at touched by.by in
        let points : PointsAt basis es contexts.homes at access.operand_ c =
        subst (λ x. PointsAt basis es contexts.homes x access.operand_ c) access.to (pointer_means basis es ok contexts.homes access.operand_ c access.pointer access.right access.leads) in
        let meant = means_place basis es ok contexts.homes at access.operand_ o c h points is_at in
        let own = own_trail by.thread frames.cs in
        let trail_at = trails_get s.threads contexts.frames t by.thread frames.cs by.there frames.in_contexts in
        let born = element_at safe.pasts.0 t (subst (λ n. t < n) (sym safe.pasts.1.many) (slice_get_within (trails_in contexts s) t own trail_at)) in
        record {
          thread = by.thread;
          there = by.there;
          cs = frames.cs;
          in_contexts = frames.in_contexts;
          born = born.0;
          born_at = born.1;
          stands = no_retake basis.program by.thread.frame.point access.operand_ access.accessing;
          writes = access.wrote;
          is_origin = meant.0;
          accessing = record {
            from_main = safe.pasts.1.from_main t born.0 own born.1 trail_at;
            held = whole_held basis es tables (owned_by basis contexts s t) born.0 own (safe.pasts.1.births t born.0 born.1) (safe.holding t by.thread frames.cs by.there frames.in_contexts);
            at = refl;
            f = frames.f;
            label = points.label;
            accesses = accesses_label basis by.thread.frame.point frames.f access.operand_ points.label frames.own.live frames.own.stands access.accessing points.leads;
            means = meant.1;
          };
        }

    -- a racing item is found
    found : (t : ℕ) (wrote : Bool) (on : Side o h t wrote) → IsRacingItem basis es tables (owned_by basis contexts s t) o on.thread.frame.point → IsFound basis tables s t o
    found t wrote on item = record { thread = on.thread; there = on.there; child = item.child; races = item.races; owns = owns }
      where
        owns : (q : ℕ) → IsLockedBy basis tables.races tables.race_locks o on.thread.frame.point q → OwnsPlace basis s t q
        owns q locked =
            let lock = locked item.child item.races in
            let holds = item.locks lock.0 lock.1 in
            let is : holds.origin ≡ q = lock.2.only holds.origin (means_all es basis.labels basis.flow follows.closed holds.origin lock.0 holds.home [] holds.is_origin holds.means) in
            subst (λ r. OwnsPlace basis s t r) is (owned_place basis es ok contexts s sound t on.thread on.there on.stands holds.origin holds.home holds.is_owned)

    one_writes : (a b : Bool) → (a || b) ≡ true → (a ≡ true) ⊎ (b ≡ true)
    one_writes true b h = inl refl
    one_writes false b h = inr h

    both : RacesRise → AreClosedTables basis tables → (race : Race basis.program s at) → HasLocation basis.program s at o → IsFound basis tables s race.first o × IsFound basis tables s race.second o
    both rise closed race location =
        let one = side race.first race.first_writes race.first_touches in
        let two = side race.second race.second_writes race.second_touches in
        let past = safe.pasts.1.past race.first race.second one.born two.born (own_trail one.thread one.cs) (own_trail two.thread two.cs) race.different
        one.born_at (trails_get s.threads contexts.frames race.first one.thread one.cs one.there one.in_contexts)
        two.born_at (trails_get s.threads contexts.frames race.second two.thread two.cs two.there two.in_contexts) in
        let writes : (writes_at basis.program one.thread.frame.point ≡ true) ⊎ (writes_at basis.program two.thread.frame.point ≡ true) = elim
        (one_writes race.first_writes race.second_writes race.writes) [
          | inl mine ↦ inl (one.writes ∙ mine)
          | inr yours ↦ inr (two.writes ∙ yours)
        ] in
        let items = (rise basis ok.lowered es tables).rise follows.closed closed (owned_by basis contexts s race.first)
        (owned_by basis contexts s race.second) o one.thread.frame.point two.thread.frame.point h
        (whole one.born (own_trail one.thread one.cs)) (whole two.born (own_trail two.thread two.cs))
        (is_location basis es ok contexts s sound at o location) one.is_origin one.accessing two.accessing past writes in
        (found race.first race.first_writes one items.0, found race.second race.second_writes two items.1)

pub races_are_found : ReachedIsSafe → RacesRise → RacesAreFound
races_are_found reach rise basis es follows tables closed s reached at race o location =
    let found = reach basis es follows tables.held closed.lock_sets s reached in
    let touched : Touched = record { cell = at; writes = race.first_writes } in
    let by = touches basis.program s race.first touched race.first_touches in
    let access = cells_sound basis.program basis.labels es basis.flow follows.analysed follows.closed s reached race.first by.thread touched by.there race.first_touches in
    let origin : HasOrigin basis.program basis.labels s at o = subst (λ n. HasOrigin basis.program basis.labels s at n) (access.location o location) access.of in
    let place = place_of_origin basis es follows.analysed found.0 s found.1 at o origin in
    both basis es follows tables found.0 s found.1 found.2 at o place.0 place.1 rise closed race location
