-- A thread that is about to lock a mutex while it owns another one: the order leads from the place of the one to that of the other.
use Rattle.std.proofs.Common.{◌≡◌, ℕ, Bool, false, List, [], ◌∷◌, ◌++◌, Some, inl, inr, refl, subst}
use Rattle.lk_facts.specs.Basis.{Basis}
use Rattle.lk_facts.specs.Flow.{Over}
use Rattle.lk_facts.specs.PathTables.{IsClosed}
use Rattle.lk_facts.specs.Program.{function_at, IsLockPlace}
use Rattle.lk_facts.specs.declared.edge.Edge.{Edge}
use Rattle.lk_circles.proofs.Sames.{Meant, by_rules}
use Rattle.lk_circles.proofs.Taken.{IsAcquiredAt, IsTaken}
use Rattle.lk_order.specs.Acquired.{Pair, Want, Wants}
use Rattle.lk_order.specs.Acquired.Pair.{here as pair_there, below as pair_below}
use Rattle.lk_order.specs.Acquired.Want.{below as want_below}
use Rattle.lk_order.specs.Acquired.Wants.{at as wants_at}
use Rattle.lk_order.specs.Order.{Precedes}
use Rattle.lk_trails.proofs.Dropping.{first_called, one_function, runs_of}
use Rattle.lk_trails.proofs.Linking.{linked_after}
use Rattle.lk_trails.proofs.Meaning.{means_all, meaning_out}
use Rattle.lk_trails.proofs.Onces.{goes_from}
use Rattle.lk_trails.specs.Trails.{Left, Stay, trail, first_of, Enters, HasCreation, IsFromMain, IsLinked}
use Rattle.lk_trails.specs.Trails.HasCreation.{beyond}
use Rattle.lk_trails.specs.Trails.IsLinked.{only, more}

module _ (basis : Basis) (linear : ℕ → Bool) (es : List Edge) (closed : IsClosed es basis.labels basis.flow) where
  -- of what a label means inside, some label that it may be outside means the same
  out : (o x : ℕ) (h : List ℕ) (from to : Stay) (created : Bool) (into : Enters basis from created to) → Meant basis es o h x to.context →
      (m : ℕ) × Over basis.flow into.way x m × Meant basis es o h m from.context
  out o x h from to created into meant =
      let inside = subst (λ c. Meant basis es o h x c) into.inside meant in
      let found = meaning_out es basis.labels basis.flow closed o x h from.context into.way inside.0 inside.1 in
      (found.0, found.1, (meant.0, found.2))

  -- ---- what is wanted

  -- where a frame stands, its function locks a mutex of a name that means the place, itself or in what it runs
  pub record WantsAt (o : ℕ) (h : List ℕ) (s : Stay) : Type 0 where
    pub function : ℕ
    pub stands : function_at basis.program s.point ≡ Some function
    pub name : ℕ
    pub wants : Want basis linear s.point function name
    pub meant : Meant basis es o h name s.context

  wants_out : (o : ℕ) (h : List ℕ) (from to : Stay) → Enters basis from false to → WantsAt o h to → WantsAt o h from
  wants_out o h from to into is =
      let outside = out o is.name h from to false into is.meant in
      let runs = runs_of basis into.goes refl in
      let same = one_function basis.program to.point is.function into.g is.stands into.stands in
      record {
        function = into.f;
        stands = goes_from basis into.goes;
        name = outside.0;
        wants = want_below runs (subst (λ g. Wants basis linear g is.name) same (wants_at is.wants)) outside.1;
        meant = outside.2;
      }

  -- so does that of the first frame, where all were left by calls
  wants_first : (o : ℕ) (h : List ℕ) {left : List Left} {top : Stay} → IsLinked basis left top → (HasCreation left → ⊥) → WantsAt o h top → WantsAt o h (first_of left top)
  wants_first o h (only top f live function) lacks is = is
  wants_first o h (more x rest top into linked) lacks is =
      wants_out o h x.at (first_of rest top) (subst (λ b. Enters basis x.at b (first_of rest top)) (first_called x rest lacks) into)
      (wants_first o h linked (λ created. lacks (beyond x rest created)) is)

  -- ---- pairs

  module _ (o r : ℕ) (h k : List ℕ) where
    -- the function of a frame locks a mutex at the place r while it owns one at the place o, or what it runs or starts does
    record HasPairAt (s : Stay) : Type 0 where
      function : ℕ
      stands : function_at basis.program s.point ≡ Some function
      held : ℕ
      wanted : ℕ
      pair : Pair basis linear function held wanted
      held_meant : Meant basis es o h held s.context
      wanted_meant : Meant basis es r k wanted s.context

    pair_here : (s : Stay) → IsAcquiredAt basis linear es o h s → WantsAt r k s → HasPairAt s
    pair_here s at is = record {
      function = is.function;
      stands = is.stands;
      held = at.label;
      wanted = is.name;
      pair = pair_there at.acquired is.wants;
      held_meant = at.meant;
      wanted_meant = is.meant;
    }

    pair_out : (from to : Stay) (created : Bool) → Enters basis from created to → HasPairAt to → HasPairAt from
    pair_out from to created into is =
        let held = out o is.held h from to created into is.held_meant in
        let wanted = out r is.wanted k from to created into is.wanted_meant in
        let same = one_function basis.program to.point is.function into.g is.stands into.stands in
        record {
          function = into.f;
          stands = goes_from basis into.goes;
          held = held.0;
          wanted = wanted.0;
          pair = pair_below (by_rules basis into.goes) (subst (λ g. Pair basis linear g is.held is.wanted) same is.pair) held.1 wanted.1;
          held_meant = held.2;
          wanted_meant = wanted.2;
        }

    -- the first frame of a thread, which took the mutex that it owns in one of its frames
    pair_first : {left : List Left} {top : Stay} → IsLinked basis left top → (HasCreation left → ⊥) → IsTaken basis linear es o h left top → WantsAt r k top → HasPairAt (first_of left top)
    pair_first (only top f live function) lacks at is = pair_here top at is
    pair_first (more x rest top into linked) lacks (inl at) is = pair_here x.at at.at (wants_first r k (more x rest top into linked) lacks is)
    pair_first (more x rest top into linked) lacks (inr at) is =
        pair_out x.at (first_of rest top) x.created into (pair_first linked (λ created. lacks (beyond x rest created)) at is)

    -- the first frame of main
    pair_main : (born left : List Left) (top : Stay) → IsLinked basis (born ++ left) top → HasPairAt (first_of left top) → HasPairAt (first_of (born ++ left) top)
    pair_main [] left top linked is = is
    pair_main (x ∷ born) left top (more _ _ _ into linked) is = pair_out x.at (first_of (born ++ left) top) x.created into (pair_main born left top linked is)

    pub precedes : (born left : List Left) (top : Stay) → IsFromMain basis (trail (born ++ left) top) → (HasCreation left → ⊥) → IsTaken basis linear es o h left top → WantsAt r k top →
        IsLockPlace basis.program o → IsLockPlace basis.program r → Precedes basis linear o r
    precedes born left top from lacks taken wants held_place wanted_place =
        let found = pair_main born left top from.linked (pair_first (linked_after basis from.linked born left refl) lacks taken wants) in
        let first = first_of (born ++ left) top in
        let main = one_function basis.program first.point found.function basis.program.main found.stands from.main in
        record {
          held = found.held;
          wanted = found.wanted;
          pair = subst (λ f. Pair basis linear f found.held found.wanted) main found.pair;
          held_is = means_all es basis.labels basis.flow closed o found.held h first.context found.held_meant.0 found.held_meant.1;
          wanted_is = means_all es basis.labels basis.flow closed r found.wanted k first.context found.wanted_meant.0 found.wanted_meant.1;
          held_place = held_place;
          wanted_place = wanted_place;
        }
