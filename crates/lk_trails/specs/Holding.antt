-- What threads hold along their trails, by the lock sets of points; and how it goes on by their
-- steps (LOCKSMITH: lock state).
use Rattle.std.specs.Prelude.{◌≡◌, ◌⊎◌, ℕ, true, List, [], ◌∷◌}
use Rattle.lk_facts.specs.Basis.{Basis}
use Rattle.lk_facts.specs.Doing.{Takes, Frees}
use Rattle.lk_facts.specs.Held.{Keeps, at_test, release_test, says}
use Rattle.lk_facts.specs.Labels.{is_origin_at}
use Rattle.lk_facts.specs.LockSets.{LockSets}
use Rattle.lk_facts.specs.declared.edge.Edge.{Edge}
use Rattle.lk_trails.specs.Named.{Means, Holds}
use Rattle.lk_trails.specs.Trails.{Left, Stay, Trail, HasCreation}

module _ (basis : Basis) (es : List Edge) (held : LockSets) where
  -- the place that is owned, by its label and the context of its object
  abbrev pub Owned : Type 1
  Owned = ℕ → List ℕ → Type 0

  -- what the lock sets have at a point, and what they keep there, is owned
  abbrev pub HoldsAt : Owned → Stay → Type 0
  HoldsAt owned s = (x : ℕ) → at_test held s.point x ≡ true → Holds basis.labels es owned x s.context

  abbrev pub HoldsKept : Owned → Stay → Type 0
  HoldsKept owned s = (x : ℕ) → Keeps basis (says (release_test held)) (at_test held) s.point x →
      Holds basis.labels es owned x s.context

  -- each frame of the thread itself keeps what the lock sets keep; of those before
  -- its creation nothing is asked
  pub data AreKept (owned : Owned) : List Left → Type 0 where
    none : AreKept owned []
    before : (x : Left) (rest : List Left) → HasCreation (x ∷ rest) → AreKept owned rest →
        AreKept owned (x ∷ rest)
    own : (x : Left) (rest : List Left) → HoldsKept owned x.at → AreKept owned rest → AreKept owned (x ∷ rest)

  pub record AreHeld (owned : Owned) (t : Trail) : Type 0 where
    pub at : HoldsAt owned t.top
    pub kept : AreKept owned t.left

  -- what was owned is owned after a step at the stay s, but for what the point frees; and
  -- what the point takes is owned
  pub record OwnedGoesOn (s : Stay) (old new : Owned) : Type 0 where
    pub kept : (o : ℕ) (h : List ℕ) → old o h →
        new o h ⊎ ((f y : ℕ) × Frees basis s.point f y × (is_origin_at basis.labels o ≡ true) × Means basis.labels es o h y s.context)
    pub taken : (f y : ℕ) → Takes basis s.point f y →
        (o : ℕ) × (h : List ℕ) × new o h × (is_origin_at basis.labels o ≡ true)
        × Means basis.labels es o h y s.context
