-- Matched paths (LOCKSMITH: label flow with calls and returns matched): which labels flow to which
-- along edges whose marks fit.
use Rattle.std.specs.Prelude.{◌≡◌, ℕ, Bool, true, false, List, [], ◌∷◌, ◌++◌, ◌⊎◌, Contains}
use Rattle.lk_facts.specs.declared.edge.Edge.{Edge}
use Rattle.lk_facts.specs.declared.edge.Mark.{Mark}
use Rattle.lk_facts.specs.declared.edge.Mark.TheVariants.{Plain, Enter, Leave}

abbrev pub edge_of : ℕ → ℕ → Mark → Edge
edge_of a b m = record { from = a; to = b; mark = m }

-- the list has an edge between the two labels with the mark
abbrev pub HasEdge : List Edge → ℕ → ℕ → Mark → Type 0
HasEdge es a b m = Contains es (edge_of a b m)

-- the mark of the way back
abbrev pub opposite : Mark → Mark
opposite Plain = Plain
opposite (Enter i) = Leave i
opposite (Leave i) = Enter i

-- Each Enter(i) is matched by a later Leave(i), with a balanced word between them,
-- and each Leave is so matched.
pub data Balanced : List Mark → Type 0 where
  empty : Balanced []
  plain : (w : List Mark) → Balanced w → Balanced (Plain ∷ w)
  matched : (i : ℕ) (v w : List Mark) → Balanced v → Balanced w → Balanced (Enter i ∷ v ++ Leave i ∷ w)

-- the unmatched marks are all of one kind: they stand between balanced words
pub data OnlyUnmatched (kind : ℕ → Mark) : List Mark → Type 0 where
  none : (w : List Mark) → Balanced w → OnlyUnmatched kind w
  another : (i : ℕ) (v w : List Mark) → OnlyUnmatched kind v → Balanced w →
      OnlyUnmatched kind (v ++ kind i ∷ w)

module _ (edge : ℕ → ℕ → Mark → Type 0) (global : ℕ → Bool) where
  -- a list of edges with these marks, each beginning where the one before ended, with no
  -- global label strictly inside
  pub data Segment : ℕ → List Mark → ℕ → Type 0 where
    empty : {a : ℕ} → Segment a [] a
    step : {a b c : ℕ} {m : Mark} {w : List Mark} → edge a b m → (w ≡ []) ⊎ (global b ≡ false) →
        Segment b w c → Segment a (m ∷ w) c

  -- a segment whose marks are balanced
  abbrev pub Level : ℕ → ℕ → Type 0
  Level a b = (w : List Mark) × Segment a w b × Balanced w

  -- a segment whose unmatched marks are all of one kind
  abbrev pub Passes : (ℕ → Mark) → ℕ → ℕ → Type 0
  Passes kind a b = (w : List Mark) × Segment a w b × OnlyUnmatched kind w

  -- a segment whose unmatched marks are all Leaves: out of calls
  abbrev pub Rise : ℕ → ℕ → Type 0
  Rise = Passes Leave

  -- a segment whose unmatched marks are all Enters: into calls
  abbrev pub Fall : ℕ → ℕ → Type 0
  Fall = Passes Enter

  -- a part goes out of calls, and then into calls
  abbrev pub Part : ℕ → ℕ → Type 0
  Part a b = (x : ℕ) × Rise a x × Fall x b

  -- one part or more, each beginning where the one before ended, joined at global labels
  pub data Reach : ℕ → ℕ → Type 0 where
    one : {a b : ℕ} → Part a b → Reach a b
    more : {a g b : ℕ} → Reach a g → global g ≡ true → Part g b → Reach a b

  -- Cross: the label m has an edge into the site i, and the label at its end flows on to b inside
  abbrev pub InCross : ℕ → ℕ → ℕ → Type 0
  InCross i b m = (l : ℕ) × edge m l (Enter i) × Level l b

  module _ (origin : ℕ → Bool) where
    -- All: the origins that reach b
    abbrev pub InAll : ℕ → ℕ → Type 0
    InAll b o = (origin o ≡ true) × Reach o b

    -- Inner: the origins that rise to b, or that reach a global label that does
    pub data InInner (b o : ℕ) : Type 0 where
      rises : origin o ≡ true → Rise o b → InInner b o
      through : (g : ℕ) → origin o ≡ true → Reach o g → global g ≡ true → Rise g b → InInner b o
