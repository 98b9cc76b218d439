-- What is made once is made once at the start, and whatever step is next.
use Rattle.std.proofs.Common.{◌≡◌, ◌⊎◌, ℕ, zero, suc, Bool, true, false, List, [], ◌∷◌, ◌++◌, length, Some, Contains, inl, inr, refl, sym, ap, subst, subst₂, ◌∙◌, arith}
use Rattle.std.proofs.lemmas.Bool.{false≢true}
use Rattle.std.proofs.lemmas.List.{append-nil}
use Rattle.std.proofs.lemmas.List.Elements.{Contains-append_left, Contains-push, Contains-push_cases}
use Rattle.std.proofs.lemmas.Option.{none-some, same_Some, slice_get_within}
use Rattle.std.specs.Prelude.{slice_get, slice_set}
use Rattle.lk_facts.specs.Basis.{Basis}
use Rattle.lk_facts.specs.Lowered.{IsLowered}
use Rattle.lk_facts.specs.Many.{IsSiteOf, IsOnce, IsOneOfKind}
use Rattle.lk_facts.specs.Places.{AreDifferent}
use Rattle.lk_facts.specs.Program.{entry_of, function_at, root_at, value_site_of}
use Rattle.lk_facts.specs.Reach.{IsLiveNext, After}
use Rattle.lk_facts.specs.Reach.Plus.{one as one_step}
use Rattle.lk_facts.specs.declared.program.Program.{Program}
use Rattle.lk_facts.specs.declared.root.Root.{Root}
use Rattle.lk_facts.specs.declared.root.RootKind.TheVariants.{Local, Heap}
use Rattle.lk_facts.specs.declared.way.Way.{Way}
use Rattle.lk_trails.proofs.Counted.{Comes, NewRoots, counted_on}
use Rattle.lk_trails.proofs.Counted.Comes.{stays, moved, begins as begins_now}
use Rattle.lk_trails.proofs.FramesOf.{FrameOf, frame_in, frame_of, frame_set, frame_more}
use Rattle.lk_trails.proofs.FramesOf.FrameOf.{lower, upper}
use Rattle.lk_trails.proofs.Members.{added_cases}
use Rattle.lk_trails.proofs.Onces.{no_site, once_value, once_sites, once_site, once_after, stands_somewhere, goes_by, goes_from}
use Rattle.lk_trails.proofs.Parting.{after_more}
use Rattle.lk_types.proofs.AddLemmas.{last_got}
use Rattle.lk_types.proofs.GrowLemmas.{get_before}
use Rattle.lk_trails.specs.Counting.{WasEntered, IsFrame, IsBeyond, IsMade, AreCounted, MakesRoots}
use Rattle.lk_trails.specs.Counting.MakesRoots.{none, locals, heap}
use Rattle.lk_trails.specs.Counting.WasEntered.{first, by_site, by_value}
use Rattle.lk_trails.specs.Laws.{CountsAreKept}
use Rattle.lk_trails.specs.Trails.{Act, Stay, Left, Trail, stay, trail, left_at, GoesInto, Begins, Moves, TrailsMove}
use Rattle.lk_trails.specs.Trails.Act.{other, onward, inward}
use Rattle.lk_trails.specs.Trails.Moves.{goes, calls, returns}
use Rattle.lk_trails.specs.Trails.TrailsMove.{still, one, creates}

heap_is_no_local : (single : Bool) → Heap single ≡ Local → ⊥
heap_is_no_local single h = cc

local_is_no_heap : (single : Bool) → Local ≡ Heap single → ⊥
local_is_no_heap single h = cc

-- the one that a list of one has
only_one : (r i x : ℕ) → slice_get (r ∷ []) i ≡ Some x → (i ≡ 0) × (r ≡ x)
only_one r zero x there = (refl, same_Some r x there)
only_one r (suc i) x there = absurd (none-some x there)

-- ---- the start

-- the roots of the objects at the start: no function but main has locals, nothing is allocated, and a root that has one object at most has one
pub record AreFirstRoots (program : Program) (roots : List ℕ) : Type 0 where
  pub locals_of : (o r f : ℕ) (root : Root) → IsMade program roots o r → root_at program r ≡ Some root → root.kind ≡ Local → root.function ≡ Some f → f ≡ program.main
  pub heaps : (o r : ℕ) (root : Root) (single : Bool) → IsMade program roots o r → root_at program r ≡ Some root → root.kind ≡ Heap single → ⊥
  pub singles : (o q r : ℕ) (root : Root) → IsMade program roots o r → IsMade program roots q r → root_at program r ≡ Some root → IsOneOfKind program root.kind root → o ≡ q

-- one thread runs main, and no point was performed
pub counts_begin : (program : Program) → IsLowered program → (entry : ℕ) → entry_of program program.main ≡ Some entry → (roots : List ℕ) → AreFirstRoots program roots →
    AreCounted program [] (trail [] (stay entry []) ∷ []) roots
counts_begin program lowered entry is roots begin = record {
  frames = λ t j x f called frame of. first (one_function (only_frame frame) of);
  points = λ p f has of. absurd (omega (arith, has.1));
  locals = λ o r f root made at kind of. first (begin.locals_of o r f root made at kind of);
  heaps = λ o r p root single made at kind of. absurd (begin.heaps o r root single made at kind);
  alone = λ p f once of t j x u i y a b frame of_x other_frame of_y. (let v = only_frame frame in let w = only_frame other_frame in (v.0 ∙ sym w.0, v.1 ∙ sym w.1));
  beyond = λ p f t j x called has once of frame of_x. absurd (omega (arith, has.1));
  one = begin.singles;
}
  where
    only : Trail
    only = trail [] (stay entry [])

    only_of : {j x : ℕ} {called : Bool} → FrameOf (trail [] (stay entry [])) j x called → (j ≡ 0) × (x ≡ entry)
    only_of (lower l at where_) = absurd (none-some l at)
    only_of (upper at where_) = (at, sym where_)

    only_there : (t : ℕ) (own : Trail) → slice_get (trail [] (stay entry []) ∷ []) t ≡ Some own → (t ≡ 0) × (trail [] (stay entry []) ≡ own)
    only_there zero own there = (refl, same_Some (trail [] (stay entry [])) own there)
    only_there (suc t) own there = absurd (none-some own there)

    only_frame : {t j x : ℕ} {called : Bool} → IsFrame program (trail [] (stay entry []) ∷ []) t j x called → (t ≡ 0) × (j ≡ 0) × (x ≡ entry)
    only_frame {t} {j} {x} {called} frame =
        let found = frame_of program frame in
        let thread = only_there t found.0 found.1 in
        let place = only_of (subst (λ own. FrameOf own j x called) (sym thread.1) found.2) in
        (thread.0, place.0, place.1)

    one_function : {t j x f : ℕ} → (t ≡ 0) × (j ≡ 0) × (x ≡ entry) → function_at program x ≡ Some f → f ≡ program.main
    one_function {t} {j} {x} {f} at of = same_Some f program.main (sym of ∙ (ap (function_at program) at.2 ∙ (lowered.entries program.main entry is).stands))

module _ (basis : Basis) (lowered : IsLowered basis.program) (done : List ℕ) (old : List Trail) (roots : List ℕ) (counted : AreCounted basis.program done old roots) where
  abbrev program : Program
  program = basis.program

  -- a point at which a thread is about to perform, and that was performed before, isn't performed once
  not_again : (p t k f : ℕ) → IsFrame program old t k p false → Contains done p → IsOnce program p → function_at program p ≡ Some f → ⊥
  not_again p t k f frame has once of = elim (counted.beyond p f t k p false has once of frame of) [
    | inl after ↦ once_after program p once after
    | inr in_call ↦ false≢true in_call.1
  ]

  -- a function into which it goes now, and that was entered before, has no point that is performed once
  fresh : (p t k f g q : ℕ) {way : Way} {created : Bool} → IsFrame program old t k p false → GoesInto basis p f way g created → IsOnce program q → function_at program q ≡ Some g →
      WasEntered program done g → ⊥
  fresh p t k f g q {way} {created} frame into once of was = by (goes_by basis into) was
    where
      by : IsSiteOf program g p ⊎ ((i : ℕ) × (value_site_of program g ≡ Some i)) → WasEntered program done g → ⊥
      by (inr used) entered = once_value program q g used.0 once of used.1
      by (inl at) (first is) = no_site program lowered p (subst (λ h. IsSiteOf program h p) is at)
      by (inl at) (by_site r at_r has) =
          let same : r ≡ p = once_sites program q g r p once of at_r at in
          not_again p t k f frame (subst (Contains done) same has) (once_site program q g p once of at) (goes_from basis into)
      by (inl at) (by_value i used) = once_value program q g i once of used

  entered_now : {p f g : ℕ} {way : Way} {created : Bool} → GoesInto basis p f way g created → WasEntered program (done ++ p ∷ []) g
  entered_now {p} into = elim (goes_by basis into) [ inl at ↦ by_site p at (Contains-push done p) | inr used ↦ by_value used.0 used.1 ]

  -- ---- objects

  no_roots : (later : List ℕ) → NewRoots program done later roots []
  no_roots later = record {
    different = λ i j x at again. absurd (none-some x at);
    locals = λ i r f root there at kind of. absurd (none-some r there);
    heaps = λ i r p root single there at kind of. absurd (none-some r there);
    first_one = λ o i r root made there at kind. none-some r there;
  }

  -- an allocation
  module _ (p t k f r : ℕ) (root : Root) (single : Bool) (frame : IsFrame program old t k p false) (stands : function_at program p ≡ Some f) (at : root_at program r ≡ Some root)
      (kind : root.kind ≡ Heap single) (of : root.point ≡ Some p) where
    one_allocation : (o : ℕ) → IsMade program roots o r → IsOneOfKind program (Heap single) root → ⊥
    one_allocation o made (is_single, (q, of_q, once)) =
        let same : q ≡ p = same_Some q p (sym of_q ∙ of) in
        not_again p t k f frame (counted.heaps o r p root single made at kind of) (subst (IsOnce program) same once) stands

    same_root : (i x : ℕ) (found : Root) → slice_get (r ∷ []) i ≡ Some x → root_at program x ≡ Some found → root ≡ found
    same_root i x found there at_x = same_Some root found (sym at ∙ (ap (root_at program) (only_one r i x there).1 ∙ at_x))

    heap_root : NewRoots program done (done ++ p ∷ []) roots (r ∷ [])
    heap_root = record {
      different = λ i j x there again. (only_one r i x there).0 ∙ sym (only_one r j x again).0;
      locals = λ i x g found there at_x is_local of_g. (let same = same_root i x found there at_x in absurd (heap_is_no_local single (sym kind ∙ (ap (λ (y : Root). y.kind) same ∙ is_local))));
      heaps = λ i x q found other_single there at_x is_heap of_q.
          (let same = same_root i x found there at_x in subst (Contains (done ++ p ∷ [])) (same_Some p q (sym of ∙ (ap (λ (y : Root). y.point) same ∙ of_q))) (Contains-push done p));
      first_one = λ o i x found made there at_x is_one.
          (let same = same_root i x found there at_x in
          let number = (only_one r i x there).1 in
          one_allocation o (subst (IsMade program roots o) (sym number) made) (subst (λ z. IsOneOfKind program z root) kind (subst (λ (y : Root). IsOneOfKind program y.kind y) (sym same) is_one)));
    }

  -- the locals of a function that is entered
  module _ (p t k f g : ℕ) (way : Way) (created : Bool) (frame : IsFrame program old t k p false) (into : GoesInto basis p f way g created) (more : List ℕ) (different : AreDifferent more)
      (each : (i r : ℕ) → slice_get more i ≡ Some r → (root : Root) × (root_at program r ≡ Some root) × (root.kind ≡ Local) × (root.function ≡ Some g)) where
    one_local : (o r : ℕ) (root : Root) → IsMade program roots o r → root_at program r ≡ Some root → root.kind ≡ Local → root.function ≡ Some g → IsOneOfKind program Local root → ⊥
    one_local o r root made at kind of (h, of_h, (entry, enters, once)) =
        let same : h ≡ g = same_Some h g (sym of_h ∙ of) in
        let stands : function_at program entry ≡ Some g = (lowered.entries h entry enters).stands ∙ ap Some same in
        fresh p t k f g entry frame into once stands (counted.locals o r g root made at kind of)

    record IsOwn (root : Root) : Type 0 where
      kind : root.kind ≡ Local
      of : root.function ≡ Some g

    own_root : (i r : ℕ) (root : Root) → slice_get more i ≡ Some r → root_at program r ≡ Some root → IsOwn root
    own_root i r root there at =
        let found = each i r there in
        let same : found.0 ≡ root = same_Some found.0 root (sym found.1 ∙ at) in
        record { kind = sym (ap (λ (y : Root). y.kind) same) ∙ found.2; of = sym (ap (λ (y : Root). y.function) same) ∙ found.3 }

    local_roots : NewRoots program done (done ++ p ∷ []) roots more
    local_roots = record {
      different = different;
      locals = λ i r h root there at kind of_h. (let own = own_root i r root there at in subst (WasEntered program (done ++ p ∷ [])) (same_Some g h (sym own.of ∙ of_h)) (entered_now into));
      heaps = λ i r q root single there at kind of_q. absurd (local_is_no_heap single (sym (own_root i r root there at).kind ∙ kind));
      first_one = λ o i r root made there at is_one.
          (let own = own_root i r root there at in one_local o r root made at own.kind own.of (subst (λ z. IsOneOfKind program z root) own.kind is_one));
    }

  onward_roots : (p t k f : ℕ) {more : List ℕ} → IsFrame program old t k p false → function_at program p ≡ Some f → MakesRoots program (onward p) more →
      NewRoots program done (done ++ p ∷ []) roots more
  onward_roots p t k f frame stands (none act) = no_roots (done ++ p ∷ [])
  onward_roots p t k f frame stands (heap q r root single at kind of) = heap_root p t k f r root single frame stands at kind of

  inward_roots : (p t k f g : ℕ) {way : Way} {created : Bool} {more : List ℕ} → IsFrame program old t k p false → GoesInto basis p f way g created → MakesRoots program (inward g) more →
      NewRoots program done (done ++ p ∷ []) roots more
  inward_roots p t k f g frame into (none act) = no_roots (done ++ p ∷ [])
  inward_roots p t k f g {way} {created} frame into (locals h more different each) = local_roots p t k f g way created frame into more different each

  other_roots : {more : List ℕ} → MakesRoots program other more → NewRoots program done done roots more
  other_roots (none act) = no_roots done

  -- ---- points

  -- one more was performed: it was before, or it is the one
  module _ (p : ℕ) where
    kept : (q : ℕ) → Contains done q → Contains (done ++ p ∷ []) q
    kept q has = Contains-append_left done (p ∷ []) q has

    parted : (x : ℕ) (called : Bool) → IsBeyond program p x called → (q : ℕ) → Contains (done ++ p ∷ []) q → Contains done q ⊎ ((q ≡ p) × IsBeyond program q x called)
    parted x called beyond q has = elim (Contains-push_cases done p q has) [
      | inl was ↦ inl was
      | inr same ↦ inr (sym same, subst (λ y. IsBeyond program y x called) same beyond)
    ]

  -- what comes on from a frame on top is beyond what that is beyond
  beyond_on : (p q : ℕ) → IsLiveNext program p q → (r : ℕ) (called : Bool) → IsBeyond program r p called → IsBeyond program r q false
  beyond_on p q next r called (inl after) = inl (after_more program after next)
  beyond_on p q next r called (inr in_call) = inl (subst (λ y. After program y q) in_call.0 (one_step next))

  beyond_call : (p r : ℕ) → IsBeyond program r p false → IsBeyond program r p true
  beyond_call p r (inl after) = inl after
  beyond_call p r (inr in_call) = absurd (false≢true in_call.1)

  -- ---- the moves of one thread

  -- the frame that a thread begins at a number
  abbrev BeginsAt : (t j x : ℕ) → ℕ → ℕ → ℕ → Type 0
  BeginsAt t j x s i y = (s ≡ t) × (i ≡ j) × (y ≡ x)

  abbrev BeginsNone : ℕ → ℕ → ℕ → Type 0
  BeginsNone s i y = ⊥

  module _ (t : ℕ) (left : List Left) where
    abbrev place : ℕ
    place = length left

    -- a frame that the thread left before the one that moves stays
    under : (before : Trail) → slice_get old t ≡ Some before → {x1 : ℕ} {c1 : Bool} {Begun : ℕ → ℕ → ℕ → Type 0} {s j x : ℕ} → s ≡ t → (l : Left) → slice_get left j ≡ Some l →
        slice_get before.left j ≡ Some l → l.at.point ≡ x →
        Comes program old t place x1 c1 Begun s j x true
    under before there {x1} {c1} {Begun} {s} {j} {x} same l at at_before is =
        let within = slice_get_within left j l at in
        stays (subst (λ u. IsFrame program old u j x true) (sym same) (frame_in program before there (lower l at_before is))) (λ thread number. omega (arith, within, number))

    apart : {x1 : ℕ} {c1 : Bool} {Begun : ℕ → ℕ → ℕ → Type 0} {s j x : ℕ} {called : Bool} → (s ≡ t → ⊥) → IsFrame program old s j x called → Comes program old t place x1 c1 Begun s j x called
    apart not_it frame = stays frame (λ thread number. not_it thread)

    -- it goes on
    module _ (p q : ℕ) (c : List ℕ) (there : slice_get old t ≡ Some (trail left (stay p c))) (next : IsLiveNext program p q) where
      on_top : IsFrame program old t place p false
      on_top = frame_in program (trail left (stay p c)) there (upper refl refl)

      own_goes : {Begun : ℕ → ℕ → ℕ → Type 0} {s j x : ℕ} {called : Bool} → s ≡ t → FrameOf (trail left (stay q c)) j x called → Comes program old t place q false Begun s j x called
      own_goes same (lower l at is) = under (trail left (stay p c)) there same l at at is
      own_goes same (upper at is) = moved same at (sym is) refl

      set_goes : {Begun : ℕ → ℕ → ℕ → Type 0} {s j x : ℕ} {called : Bool} → IsFrame program (slice_set old t (trail left (stay q c))) s j x called →
          Comes program old t place q false Begun s j x called
      set_goes frame = elim (frame_set program old t (trail left (stay q c)) frame) [ inl own ↦ own_goes own.0 own.1 | inr far ↦ apart far.0 far.1 ]

      own_function : (f : ℕ) × (function_at program p ≡ Some f)
      own_function = stands_somewhere program p q next.0

      goes_on : {more : List ℕ} → MakesRoots program (onward p) more → AreCounted program (done ++ p ∷ []) (slice_set old t (trail left (stay q c))) (roots ++ more)
      goes_on {more} makes = counted_on program done (done ++ p ∷ []) old (slice_set old t (trail left (stay q c))) roots more counted (record {
        u = t;
        k = place;
        x0 = p;
        c0 = false;
        x1 = q;
        c1 = false;
        was = on_top;
        same = lowered.successors p q next.0;
        on = λ r beyond. beyond_on p q next r false beyond;
        Begun = BeginsNone;
        each = λ s j x called frame. set_goes frame;
        single = λ s j x u i y none_begins also. absurd none_begins;
        entered = λ s j x g none_begins of. absurd none_begins;
        fresh = λ s j x g r none_begins of once of_r was. none_begins;
        keeps = kept p;
        split = parted p q false (inl (one_step next));
        objects = onward_roots p t place own_function.0 on_top own_function.1 makes;
      })

      -- and begins another one
      module _ (to : Stay) (begins : Begins basis (stay p c) true to) where
        abbrev goes_set : List Trail
        goes_set = slice_set old t (trail left (stay q c))

        abbrev creates_into : GoesInto basis p begins.enters.f begins.enters.way begins.enters.g true
        creates_into = begins.enters.goes

        creates_entry : {g x : ℕ} → x ≡ to.point → function_at program x ≡ Some g → begins.enters.g ≡ g
        creates_entry {g} {x} at of = same_Some begins.enters.g g (sym begins.enters.stands ∙ (ap (function_at program) (sym at) ∙ of))

        new_creates : {s j x : ℕ} {called : Bool} → s ≡ length goes_set → FrameOf (trail [] to) j x called → Comes program old t place q false (BeginsAt (length goes_set) 0 to.point) s j x called
        new_creates same (lower l at is) = absurd (none-some l at)
        new_creates same (upper at is) = begins_now (same, at, sym is)

        all_creates : {s j x : ℕ} {called : Bool} → IsFrame program (goes_set ++ trail [] to ∷ []) s j x called →
            Comes program old t place q false (BeginsAt (length goes_set) 0 to.point) s j x called
        all_creates frame = elim (frame_more program goes_set (trail [] to) frame) [ inl new ↦ new_creates new.0 new.1 | inr was ↦ set_goes was ]

        creates_on : {more : List ℕ} → MakesRoots program (inward begins.enters.g) more → AreCounted program (done ++ p ∷ []) (goes_set ++ trail [] to ∷ []) (roots ++ more)
        creates_on {more} makes = counted_on program done (done ++ p ∷ []) old (goes_set ++ trail [] to ∷ []) roots more counted (record {
          u = t;
          k = place;
          x0 = p;
          c0 = false;
          x1 = q;
          c1 = false;
          was = on_top;
          same = lowered.successors p q next.0;
          on = λ r beyond. beyond_on p q next r false beyond;
          Begun = BeginsAt (length goes_set) 0 to.point;
          each = λ s j x called frame. all_creates frame;
          single = λ s j x u i y here also. (here.0 ∙ sym also.0, here.1 ∙ sym also.1);
          entered = λ s j x g here of. subst (WasEntered program (done ++ p ∷ [])) (creates_entry here.2 of) (entered_now creates_into);
          fresh = λ s j x g r here of once of_r was.
              (let same = creates_entry here.2 of in fresh p t place begins.enters.f begins.enters.g r on_top creates_into once (of_r ∙ ap Some (sym same)) (subst (WasEntered program done)
              (sym same) was));
          keeps = kept p;
          split = parted p q false (inl (one_step next));
          objects = inward_roots p t place begins.enters.f begins.enters.g on_top creates_into makes;
        })

    -- it calls
    module _ (top to : Stay) (there : slice_get old t ≡ Some (trail left top)) (begins : Begins basis top false to) where
      abbrev from : ℕ
      from = top.point

      abbrev called_left : List Left
      called_left = left ++ left_at top false ∷ []

      calling : IsFrame program old t place from false
      calling = frame_in program (trail left top) there (upper refl refl)

      abbrev calls_into : GoesInto basis from begins.enters.f begins.enters.way begins.enters.g false
      calls_into = begins.enters.goes

      calls_entry : {g x : ℕ} → x ≡ to.point → function_at program x ≡ Some g → begins.enters.g ≡ g
      calls_entry {g} {x} at of = same_Some begins.enters.g g (sym begins.enters.stands ∙ (ap (function_at program) (sym at) ∙ of))

      abbrev BeginsCall : ℕ → ℕ → ℕ → Type 0
      BeginsCall = BeginsAt t (length called_left) to.point

      own_calls : {s j x : ℕ} {called : Bool} → s ≡ t → FrameOf (trail called_left to) j x called → Comes program old t place from true BeginsCall s j x called
      own_calls {s} {j} {x} same (lower l at is) = elim (added_cases left (left_at top false) j l at) [
        | inl was ↦ under (trail left top) there same l was was is
        | inr last ↦ moved same last.0 (sym is ∙ ap (λ (m : Left). m.at.point) last.1) refl
      ]
      own_calls same (upper at is) = begins_now (same, at, sym is)

      set_calls : {s j x : ℕ} {called : Bool} → IsFrame program (slice_set old t (trail called_left to)) s j x called → Comes program old t place from true BeginsCall s j x called
      set_calls frame = elim (frame_set program old t (trail called_left to) frame) [ inl own ↦ own_calls own.0 own.1 | inr far ↦ apart far.0 far.1 ]

      calls_on : {more : List ℕ} → MakesRoots program (inward begins.enters.g) more → AreCounted program (done ++ from ∷ []) (slice_set old t (trail called_left to)) (roots ++ more)
      calls_on {more} makes = counted_on program done (done ++ from ∷ []) old (slice_set old t (trail called_left to)) roots more counted (record {
        u = t;
        k = place;
        x0 = from;
        c0 = false;
        x1 = from;
        c1 = true;
        was = calling;
        same = refl;
        on = beyond_call from;
        Begun = BeginsCall;
        each = λ s j x called frame. set_calls frame;
        single = λ s j x u i y here also. (here.0 ∙ sym also.0, here.1 ∙ sym also.1);
        entered = λ s j x g here of. subst (WasEntered program (done ++ from ∷ [])) (calls_entry here.2 of) (entered_now calls_into);
        fresh = λ s j x g r here of once of_r was.
            (let same = calls_entry here.2 of in fresh from t place begins.enters.f begins.enters.g r calling calls_into once (of_r ∙ ap Some (sym same)) (subst (WasEntered program done)
            (sym same) was));
        keeps = kept from;
        split = parted from from true (inr (refl, refl));
        objects = inward_roots from t place begins.enters.f begins.enters.g calling calls_into makes;
      })

    -- it returns
    module _ (caller top : Stay) (q : ℕ) (there : slice_get old t ≡ Some (trail (left ++ left_at caller false ∷ []) top)) (next : IsLiveNext program caller.point q) where
      abbrev returned : Trail
      returned = trail left (stay q caller.context)

      in_call : IsFrame program old t place caller.point true
      in_call = frame_in program (trail (left ++ left_at caller false ∷ []) top) there (lower (left_at caller false) (last_got left (left_at caller false)) refl)

      own_returns : {s j x : ℕ} {called : Bool} → s ≡ t → FrameOf returned j x called → Comes program old t place q false BeginsNone s j x called
      own_returns {s} {j} {x} same (lower l at is) =
          let at_before = get_before left (left_at caller false ∷ []) j (slice_get_within left j l at) ∙ at in
          under (trail (left ++ left_at caller false ∷ []) top) there same l at at_before is
      own_returns same (upper at is) = moved same at (sym is) refl

      set_returns : {s j x : ℕ} {called : Bool} → IsFrame program (slice_set old t returned) s j x called → Comes program old t place q false BeginsNone s j x called
      set_returns frame = elim (frame_set program old t returned frame) [ inl own ↦ own_returns own.0 own.1 | inr far ↦ apart far.0 far.1 ]

      returns_on : {more : List ℕ} → MakesRoots program other more → AreCounted program done (slice_set old t returned) (roots ++ more)
      returns_on {more} makes = counted_on program done done old (slice_set old t returned) roots more counted (record {
        u = t;
        k = place;
        x0 = caller.point;
        c0 = true;
        x1 = q;
        c1 = false;
        was = in_call;
        same = lowered.successors caller.point q next.0;
        on = λ r beyond. beyond_on caller.point q next r true beyond;
        Begun = BeginsNone;
        each = λ s j x called frame. set_returns frame;
        single = λ s j x u i y none_begins also. absurd none_begins;
        entered = λ s j x g none_begins of. absurd none_begins;
        fresh = λ s j x g r none_begins of once of_r was. none_begins;
        keeps = λ r has. has;
        split = λ r has. inl has;
        objects = other_roots makes;
      })

  -- ---- all moves

  abbrev Counted : List Trail → List ℕ → Type 0
  Counted new more = (later : List ℕ) × AreCounted program later new (roots ++ more)

  nothing_made : (new : List Trail) {more : List ℕ} → new ≡ old → MakesRoots program other more → Counted new more
  nothing_made new is (none act) = (done, subst₂ (λ ts rs. AreCounted program done ts rs) (sym is) (sym (append-nil roots)) counted)

  one_moves : (t : ℕ) {act : Act} {before after : Trail} {more : List ℕ} → slice_get old t ≡ Some before → Moves basis act before after → MakesRoots program act more →
      Counted (slice_set old t after) more
  one_moves t there (goes left p q c idle next) makes = (done ++ p ∷ [], goes_on t left p q c there next makes)
  one_moves t there (calls left top to begins) makes = (done ++ top.point ∷ [], calls_on t left top to there begins makes)
  one_moves t there (returns left caller top q enters is_return next) makes = (done, returns_on t left caller top q there next makes)

  counts_on : (t : ℕ) (new : List Trail) {act : Act} {more : List ℕ} → TrailsMove basis t old new act → MakesRoots program act more → Counted new more
  counts_on t new (still is frees_none) makes = nothing_made new is makes
  counts_on t new {act} {more} (one before after there moves is) makes = subst (λ ts. Counted ts more) (sym is) (one_moves t there moves makes)
  counts_on t new {act} {more} (creates left p q c to there next begins is) makes = subst (λ ts. Counted ts more) (sym is) (done ++ p ∷ [], creates_on t left p q c there next to begins makes)

-- each step keeps what is counted
pub counts_are_kept : CountsAreKept
counts_are_kept basis in_range lowered done t old new roots more act counted moves makes = counts_on basis lowered done old roots counted t new moves makes
