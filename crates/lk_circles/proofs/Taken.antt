-- A mutex that a thread owns, along its trail: some frame has a label of it among those that it acquired, and
-- no frame behind drops a label that rises to it. So it stays, whatever the thread does but to give the mutex back.
use Rattle.std.proofs.Common.{◌≡◌, ◌⊎◌, ℕ, Bool, true, false, List, [], ◌∷◌, ◌++◌, Some, inl, inr, refl, sym, ap, subst, ◌∙◌}
use Rattle.std.proofs.lemmas.List.{append-nil, append_assoc}
use Rattle.lk_facts.specs.Basis.{Basis}
use Rattle.lk_facts.specs.Doing.{Runs}
use Rattle.lk_facts.specs.Held.{RunsNone}
use Rattle.lk_facts.specs.Lowered.{IsLowered}
use Rattle.lk_facts.specs.Many.{IsLinear}
use Rattle.lk_facts.specs.PathTables.{IsClosed}
use Rattle.lk_facts.specs.Program.{exit_of, function_at, live_at}
use Rattle.lk_facts.specs.Reach.{IsLiveNext}
use Rattle.lk_facts.specs.declared.edge.Edge.{Edge}
use Rattle.lk_circles.proofs.Sames.{Meant, main_until, same_one}
use Rattle.lk_circles.proofs.Points.{return_goes_none, return_runs_none, runs_goes_none}
use Rattle.lk_circles.proofs.Spared.{AreSpared, AreTheOne, GoesElsewhere, exit_live, spared_calls, spared_exit, spared_goes, spared_returns}
use Rattle.lk_order.specs.Acquired.{Acq, Drops}
use Rattle.lk_order.specs.Acquired.Acq.{kept, returned}
use Rattle.lk_order.specs.Acquired.Drops.{itself, below}
use Rattle.lk_order.specs.Dropped.NotDropped.{entry}
use Rattle.lk_order.specs.Same.{Same}
use Rattle.lk_trails.proofs.Dropping.{one_function, runs_in, runs_live, runs_of, top_live}
use Rattle.lk_trails.proofs.Linking.{entry_live}
use Rattle.lk_trails.proofs.Meaning.{meaning_out}
use Rattle.lk_trails.specs.Trails.{Act, Left, Stay, Trail, stay, trail, left_at, Begins, Enters, IsFromMain, IsLinked, IsReturn, Moves}

module _ (basis : Basis) (linear : ℕ → Bool) (es : List Edge) (o : ℕ) (h : List ℕ) where
  -- a label that means the place was acquired where a frame stands
  pub record IsAcquiredAt (s : Stay) : Type 0 where
    pub label : ℕ
    pub acquired : Acq basis linear s.point label
    pub meant : Meant basis es o h label s.context

  -- it was acquired where a frame was left, and no frame behind dropped it
  pub record IsLeftWith (x : Left) (rest : List Left) (top : Stay) : Type 0 where
    pub at : IsAcquiredAt x.at
    pub function : ℕ
    pub stands : function_at basis.program x.at.point ≡ Some function
    pub spared : AreSpared basis es (Same basis linear function at.label) x.at rest top

  -- in some frame of the trail
  abbrev pub IsTaken : List Left → Stay → Type 0
  IsTaken [] top = IsAcquiredAt top
  IsTaken (x ∷ rest) top = IsLeftWith x rest top ⊎ IsTaken rest top

  -- in the last one
  pub taken_here : (left : List Left) (top : Stay) → IsAcquiredAt top → IsTaken left top
  taken_here [] top at = at
  taken_here (x ∷ rest) top at = inr (taken_here rest top at)

  -- where a frame stands, a label that is the same as one that means the place means the one mutex there
  abbrev pub IsSure : Stay → Type 0
  IsSure s = (f x : ℕ) → function_at basis.program s.point ≡ Some f → Meant basis es o h x s.context → AreTheOne basis es (Same basis linear f x) s.context o

  abbrev pub AreSure : List Left → Stay → Type 0
  AreSure [] top = IsSure top
  AreSure (x ∷ rest) top = IsSure x.at × AreSure rest top

  module _ (closed : IsClosed es basis.labels basis.flow) (lowered : IsLowered basis.program) (are_linear : (q : ℕ) → linear q ≡ true → IsLinear basis.program q) where
    is_sure : (left : List Left) (s : Stay) → IsFromMain basis (trail left s) → IsSure s
    is_sure left s from f x stands meant y q k same also = same_one basis es closed lowered linear are_linear same left s from stands o q h k meant also

    -- ---- the last frame goes on

    acquired_goes : (p q : ℕ) (c : List ℕ) → live_at basis.program p ≡ true → RunsNone basis p → IsLiveNext basis.program p q → GoesElsewhere basis es o (stay p c) → IsSure (stay p c) →
        IsAcquiredAt (stay p c) → IsAcquiredAt (stay q c)
    acquired_goes p q c live runs next elsewhere sure at = record { label = at.label; acquired = kept live next at.acquired not_lost; meant = at.meant }
      where
        not_lost : Drops basis linear p at.label → ⊥
        not_lost (itself {f} {y} goes same) = let found = elsewhere f y goes in found.3 (sure f at.label goes.of at.meant y found.0 found.1 same found.2)
        not_lost (below {f} {g} {way} some each) = runs f g way some

    pub taken_goes : (p q : ℕ) (c : List ℕ) → live_at basis.program p ≡ true → RunsNone basis p → IsLiveNext basis.program p q → GoesElsewhere basis es o (stay p c) → (left : List Left) →
        AreSure left (stay p c) → IsTaken left (stay p c) → IsTaken left (stay q c)
    taken_goes p q c live runs next elsewhere [] sure at = acquired_goes p q c live runs next elsewhere sure at
    taken_goes p q c live runs next elsewhere (x ∷ rest) sure (inl is) = inl (record {
      at = is.at;
      function = is.function;
      stands = is.stands;
      spared = spared_goes basis es closed lowered o p q c live runs next elsewhere (Same basis linear is.function is.at.label) x.at rest
          (sure.0 is.function is.at.label is.stands is.at.meant) is.spared;
    })
    taken_goes p q c live runs next elsewhere (x ∷ rest) sure (inr is) = inr (taken_goes p q c live runs next elsewhere rest sure.1 is)

    -- ---- it calls

    pub taken_calls : (top to : Stay) → Begins basis top false to → (left : List Left) → IsTaken left top → IsTaken (left ++ left_at top false ∷ []) to
    taken_calls top to begins [] at = inl (record {
      at = at;
      function = begins.enters.f;
      stands = runs_in basis (runs_of basis begins.enters.goes refl);
      spared = λ into z rises. entry begins.enters.g (entry_live basis lowered begins.enters.g to.point begins.entry) begins.entry;
    })
    taken_calls top to begins (x ∷ rest) (inl is) = inl (record {
      at = is.at;
      function = is.function;
      stands = is.stands;
      spared = spared_calls basis es closed lowered top to begins (Same basis linear is.function is.at.label) x.at rest is.spared;
    })
    taken_calls top to begins (x ∷ rest) (inr is) = inr (taken_calls top to begins rest is)

    -- ---- it returns

    module _ (caller top : Stay) (into : Enters basis caller false top) (return : IsReturn basis top.point) (q : ℕ) (next : IsLiveNext basis.program caller.point q) where
      exits : exit_of basis.program into.g ≡ Some return.exit
      exits = ap (λ n. exit_of basis.program n) (one_function basis.program top.point into.g return.g into.stands return.stands) ∙ return.exits

      -- what the caller acquired before the call it has behind it
      acquired_outside : IsLeftWith (left_at caller false) [] top → IsAcquiredAt (stay q caller.context)
      acquired_outside is = record { label = is.at.label; acquired = kept (runs_live basis runs) next is.at.acquired not_lost; meant = is.at.meant }
        where
          runs : Runs basis caller.point into.f into.way into.g
          runs = runs_of basis into.goes refl

          not_lost : Drops basis linear caller.point is.at.label → ⊥
          not_lost (itself {f} {y} goes same) = runs_goes_none basis runs f y goes
          not_lost (below some each) =
              let drops = each into.f into.g into.way runs in
              let own : Same basis linear is.function is.at.label drops.outside =
              subst (λ f. Same basis linear f is.at.label drops.outside) (one_function basis.program caller.point into.f is.function (runs_in basis runs) is.stands) drops.same in
              let spared = is.spared into drops.inside (drops.outside, drops.outside, drops.up, inl refl, own) in
              drops.dropped.dropped (spared_exit basis es closed lowered caller top into return drops.inside drops.dropped.exit drops.dropped.is spared)

      -- what the callee acquired rises
      acquired_inside : IsAcquiredAt top → IsAcquiredAt (stay q caller.context)
      acquired_inside at =
          let out = meaning_out es basis.labels basis.flow closed o at.label h caller.context into.way at.meant.0 (subst (λ c. Meant basis es o h at.label c) into.inside at.meant).1 in
          record { label = out.0; acquired = returned (runs_of basis into.goes refl) next exits at_exit out.1; meant = (at.meant.0, out.2) }
        where
          not_lost : Drops basis linear top.point at.label → ⊥
          not_lost (itself {f} {y} goes same) = return_goes_none basis lowered return f y goes
          not_lost (below {f} {g} {way} some each) = return_runs_none basis return f g way some

          at_exit : Acq basis linear return.exit at.label
          at_exit = kept return.live (return.next, exit_live basis es closed lowered caller top into return) at.acquired not_lost

      pub taken_returns : (left : List Left) → IsTaken (left ++ left_at caller false ∷ []) top → IsTaken left (stay q caller.context)
      taken_returns [] (inl is) = acquired_outside is
      taken_returns [] (inr at) = acquired_inside at
      taken_returns (x ∷ rest) (inl is) = inl (record {
        at = is.at;
        function = is.function;
        stands = is.stands;
        spared = spared_returns basis es closed lowered caller top into return q next (Same basis linear is.function is.at.label) x.at rest is.spared;
      })
      taken_returns (x ∷ rest) (inr is) = inr (taken_returns rest is)

    -- ---- the moves

    -- each frame of a trail from main
    pub are_sure : (front left : List Left) (top : Stay) → IsFromMain basis (trail (front ++ left) top) → AreSure left top
    are_sure front [] top from = is_sure front top (subst (λ ls. IsFromMain basis (trail ls top)) (append-nil front) from)
    are_sure front (x ∷ left) top from = (
      is_sure front x.at (main_until basis front x left top from),
      are_sure (front ++ x ∷ []) left top (subst (λ ls. IsFromMain basis (trail ls top)) (sym (append_assoc front (x ∷ []) left)) from),
    )

    pub taken_moves : {act : Act} {s t : Trail} (born : List Left) → IsFromMain basis (trail (born ++ s.left) s.top) → IsLinked basis s.left s.top → GoesElsewhere basis es o s.top → Moves basis act s t →
        IsTaken s.left s.top → IsTaken t.left t.top
    taken_moves born from linked elsewhere (Moves.goes left p q c runs next) is = taken_goes p q c (top_live basis linked) runs next elsewhere left (are_sure born left (stay p c) from) is
    taken_moves born from linked elsewhere (Moves.calls left top to begins) is = taken_calls top to begins left is
    taken_moves born from linked elsewhere (Moves.returns left caller top q into return next) is = taken_returns caller top into return q next left is
