-- The names of labels that are found so far. Only the private calls of this crate speak of it.
use Rattle.std.specs.Prelude.{◌≡◌, ◌↔◌, ◌⊎◌, ◌<◌, ◌≤◌, ◌++◌, ◌∷◌, [], ℕ, List, AllPairs, Contains, length}
use Rattle.lk_facts.specs.LabelRules.{ComesBefore, IsBefore, IsLabel, IsNoPlace, IsOrigin, IsPlaceNumber, IsWithin, StandsBefore}
use Rattle.lk_facts.specs.Labels.{name_with}
use Rattle.lk_facts.specs.Places.{IsMissing, IsPut}
use Rattle.lk_facts.specs.Typed.{IsHolderType}
use Rattle.lk_facts.specs.declared.label_entry.LabelName.{LabelName}
use Rattle.lk_facts.specs.declared.program.Program.{Program}
use Rattle.lk_facts.specs.declared.root.Holder.{Holder}
use Rattle.lk_facts.specs.declared.root.Holder.TheVariants.{Root}
use Rattle.lk_types.specs.declared.node.NodeId.{NodeId}

-- the names of one holder with these nodes are put, one after the other
pub data PutsNames (h : Holder) (old : List LabelName) : List NodeId → (new : List LabelName) → Type 0 where
  none : PutsNames h old [] old
  more : (n : NodeId) (nodes : List NodeId) (mid new : List LabelName) (i : ℕ) → PutsNames h old nodes mid →
      IsPut mid new (name_with h n) i → PutsNames h old (nodes ++ n ∷ []) new

-- a name is put, where it is among the names
pub data PutsKnown (names : List LabelName) (x : LabelName) (old new : List LabelName) : Type 0 where
  put : (i : ℕ) → Contains names x → IsPut old new x i → PutsKnown names x old new
  over : IsMissing names x → new ≡ old → PutsKnown names x old new

module _ (program : Program) where
  -- the order by holders, and of those of one holder that of the walk of its nodes
  pub data ByHolder (x y : LabelName) : Type 0 where
    holders : StandsBefore x.holder y.holder → ByHolder x y
    nodes : (t : ℕ) → x.holder ≡ y.holder → IsHolderType program x.holder t →
        ComesBefore program.types t x.node y.node → ByHolder x y

  -- the labels of one holder are put behind those of the holders before it
  pub record PutsLabels (h : Holder) (old new : List LabelName) : Type 0 where
    pub each : (x : LabelName) → Contains new x ↔ (Contains old x ⊎ ((x.holder ≡ h) × IsLabel program x))
    pub ordered : AllPairs ByHolder old → ((x : LabelName) → Contains old x → StandsBefore x.holder h) →
        AllPairs ByHolder new

  -- the labels of these holders, holder by holder
  pub record AreLabelsOf (holders : List Holder) (names : List LabelName) : Type 0 where
    pub each : (x : LabelName) → Contains names x ↔ (Contains holders x.holder × IsLabel program x)
    pub ordered : AllPairs ByHolder names
    pub few : length names ≤ 65536

  -- all labels, holder by holder
  pub record AreAllLabels (names : List LabelName) : Type 0 where
    pub each : (x : LabelName) → Contains names x ↔ IsLabel program x
    pub ordered : AllPairs ByHolder names
    pub few : length names ≤ 65536

  abbrev pub HasPlace : LabelName → Type 0
  HasPlace x = (n : ℕ) × IsPlaceNumber program x n

  -- those of the names that are among the first n locations and lock places, in the order of these
  pub record ArePlacesTo (names : List LabelName) (n : ℕ) (found : List LabelName) : Type 0 where
    pub only : (x : LabelName) → Contains found x →
        Contains names x × ((k : ℕ) × (k < n) × IsPlaceNumber program x k)
    pub all : (x : LabelName) (k : ℕ) → Contains names x → k < n →
        IsPlaceNumber program x k → Contains found x
    pub ordered : AllPairs (IsBefore program) found

  -- those of the names that are locations or lock places, and these others, in their order
  pub record AreOrderedTo (names done found : List LabelName) : Type 0 where
    pub only : (x : LabelName) → Contains found x →
        Contains names x × (HasPlace x ⊎ (IsNoPlace program x × Contains done x))
    pub places : (x : LabelName) → Contains names x → HasPlace x → Contains found x
    pub all : (x : LabelName) → Contains done x → Contains found x
    pub ordered : AllPairs (IsBefore program) found

  -- all labels, in their order
  pub record AreOrdered (names : List LabelName) : Type 0 where
    pub each : (x : LabelName) → Contains names x ↔ IsLabel program x
    pub ordered : AllPairs (IsBefore program) names
    pub few : length names ≤ 65536

  -- the origins of the first n roots
  abbrev pub AreOriginsTo : ℕ → List LabelName → Type 0
  AreOriginsTo n found =
      (x : LabelName) → Contains found x
      ↔ ((r : ℕ) × (t : ℕ) × (r < n) × (x.holder ≡ Root r) × IsHolderType program (Root r) t × IsWithin program.types t x.node)

  -- the origins of the program
  abbrev pub AreOrigins : List LabelName → Type 0
  AreOrigins found = (x : LabelName) → Contains found x ↔ IsOrigin program x
