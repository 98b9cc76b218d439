-- Where the loop stands that finds All and Inner.
use Rattle.std.specs.Prelude.{◌≡◌, ◌↔◌, ◌⊎◌, ℕ, Bool, true, false, List, All, Contains}
use Rattle.lk_facts.specs.declared.edge.Edge.{Edge}
use Rattle.lk_facts.specs.Labels.{LabelTable, is_global_at, is_origin_at}
use Rattle.lk_facts.specs.PathRules.{Summary}
use Rattle.lk_facts.specs.Paths.{HasEdge, Level, InAll, InInner}
use Rattle.lk_match.specs.Passages.{mark_of}
use Rattle.lk_match.specs.declared.passage.Side.{Side}
use Rattle.lk_match.specs.declared.passage.Side.TheVariants.{Into, OutOf}
use Rattle.lk_sets.specs.Closing.{Grows}
use Rattle.lk_sets.specs.Rows.{Rows, has}
use Rattle.lk_sets.specs.Spread.{PassesOn}
use Rattle.lk_sets.specs.declared.spread.Arrow.{Arrow}

-- the arrow leads along a summary edge, or along an edge that passes a site this way
abbrev pub LeadsOn : List Edge → (ℕ → Bool) → Side → Arrow → Type 0
LeadsOn es global side x =
    Summary (HasEdge es) global (Level (HasEdge es) global) x.from x.into
    ⊎ ((i : ℕ) × HasEdge es x.from x.into (mark_of side i))

-- just these arrows
abbrev pub AreWays : List Edge → LabelTable → Side → List Arrow → Type 0
AreWays es labels side arrows = (x : Arrow) → Contains arrows x ↔ LeadsOn es (is_global_at labels) side x

-- what is found so far is in Inner and in All
pub record AreSound (es : List Edge) (labels : LabelTable) (inner all : Rows) : Type 0 where
  pub inners : (b o : ℕ) → has inner b o ≡ true →
      InInner (HasEdge es) (is_global_at labels) (is_origin_at labels) b o
  pub alls : (b o : ℕ) → has all b o ≡ true →
      InAll (HasEdge es) (is_global_at labels) (is_origin_at labels) b o

-- nothing is left to flow on
pub record AreClosed (global : ℕ → Bool) (rising falling : List Arrow) (inner all : Rows) : Type 0 where
  pub rises : All (PassesOn inner) rising
  pub falls : All (PassesOn all) falling
  pub inners : (b o : ℕ) → has inner b o ≡ true → has all b o ≡ true
  pub globals : (g o : ℕ) → global g ≡ true → has all g o ≡ true → has inner g o ≡ true

-- one round: it loses nothing, keeps what is sound, and is the last one where it finds
-- nothing new at global labels
pub record Flowed (es : List Edge) (labels : LabelTable) (rising falling : List Arrow)
    (inner all inner' all' : Rows) (changed : Bool) : Type 0 where
  pub any : Bool
  pub grows : Grows inner inner' any
  pub new : changed ≡ true → any ≡ true
  pub sound : AreWays es labels OutOf rising → AreWays es labels Into falling → AreSound es labels inner all →
      AreSound es labels inner' all'
  pub done : changed ≡ false → AreClosed (is_global_at labels) rising falling inner' all'
