-- What a point of a static initialiser is asked to give, on the way back from a
-- pointer to its object (C99 6.6, 9).
use Rattle.std.specs.Prelude.{◌≡◌, ◌⊎◌, ◌↔◌, ℕ, suc, ℤ, pos, neg_ℤ, Bool, true, false, List, [], ◌∷◌, ◌++◌, Option, None, Some}
use Rattle.lk_base.specs.declared.cell.CellStep.{CellStep}
use Rattle.lk_base.specs.declared.cell.CellStep.TheVariants.{Field, Index}
use Rattle.lk_facts.specs.Program.{action_at}
use Rattle.lk_facts.specs.declared.action.Action.{Action}
use Rattle.lk_facts.specs.declared.action.Action.TheVariants.{Root, Text}
use Rattle.lk_facts.specs.declared.program.Program.{Program}
use Rattle.lk_point_statics.specs.Near.{GivesNear, IsMovedNear}
use Rattle.lk_point_statics.specs.declared.wanted.Wanted.{Wanted}

-- the steps with the last one; where there is none, there are none before it
abbrev pub path_with : List CellStep → Option CellStep → List CellStep
path_with before None = []
path_with before (Some last) = before ++ last ∷ []

abbrev pub path_in : Wanted → List CellStep
path_in wanted = path_with wanted.before.now wanted.last

-- the index of the element to which a last step leads
abbrev pub index_in : Option CellStep → Option ℕ
index_in None = None
index_in (Some (Field k)) = None
index_in (Some (Index i)) = Some i

-- the pointer to this part of the root's object, or one past it
pub record IsFor (r : ℕ) (path : List CellStep) (past : Bool) (wanted : Wanted) : Type 0 where
  pub root : wanted.root ≡ r
  pub leads : path_in wanted ≡ path
  pub past_ : wanted.past ≡ past

-- a pointer stands at the same place as another one: it is this, or one past an
-- element before the element of this
pub data StandsAt : List CellStep → Bool → List CellStep → Bool → Type 0 where
  same : (path : List CellStep) (past : Bool) → StandsAt path past path past
  next : (before : List CellStep) (k : ℕ) →
      StandsAt (before ++ Index k ∷ []) true (before ++ Index (suc k) ∷ []) false

-- a pointer moves by so many elements, or back by so many
abbrev pub moved_by : ℤ → Bool → ℤ
moved_by n false = n
moved_by n true = neg_ℤ n

-- one pointer moves by so many elements and becomes another, and so does none that stands elsewhere
pub record MovesTo (by : ℤ) (from to : Wanted) : Type 0 where
  pub root : from.root ≡ to.root
  pub moved : IsMovedNear (path_in from) from.past by (path_in to) to.past
  pub only : (path : List CellStep) (past : Bool) → IsMovedNear path past by (path_in to) to.past →
      StandsAt path past (path_in from) from.past

-- no pointer becomes this one when it moves by so many elements
abbrev pub NoneMovesTo : ℤ → Wanted → Type 0
NoneMovesTo by to = (path : List CellStep) (past : Bool) → IsMovedNear path past by (path_in to) to.past → ⊥

-- one more step leads from one pointer to another, neither of them past its part
pub record StepsTo (step : CellStep) (from to : Wanted) : Type 0 where
  pub root : from.root ≡ to.root
  pub leads : path_in to ≡ path_in from ++ step ∷ []
  pub starts : from.past ≡ false
  pub ends : to.past ≡ false

-- the pointer isn't past its part, and this is the last step to it
abbrev pub EndsIn : CellStep → Wanted → Type 0
EndsIn step to = (before : List CellStep) × (path_in to ≡ before ++ step ∷ []) × (to.past ≡ false)

abbrev pub StepsToElement : ℤ → Wanted → Wanted → Type 0
StepsToElement index from to = (k : ℕ) × (index ≡ pos k) × StepsTo (Index k) from to

abbrev pub EndsInElement : ℤ → Wanted → Type 0
EndsInElement index to = (k : ℕ) × (index ≡ pos k) × EndsIn (Index k) to

-- the point gives the pointer
abbrev pub Meets : Program → Wanted → ℕ → Type 0
Meets program wanted p = GivesNear program p wanted.root (path_in wanted) wanted.past

-- it does so by itself: it gives the one to the object of a root
abbrev pub MeetsAlone : Program → Wanted → ℕ → Type 0
MeetsAlone program wanted p =
    (r : ℕ) × ((action_at program p ≡ Some (Root r)) ⊎ (action_at program p ≡ Some (Text r)))
    × IsFor r [] false wanted

-- a point with this action gives the second pointer exactly where the point `a` gives the first
abbrev pub Leads : Program → Action → (a : ℕ) → (from to : Wanted) → Type 0
Leads program action a from to = (p : ℕ) → action_at program p ≡ Some action →
    Meets program from a ↔ Meets program to p

-- no point with this action gives the pointer
abbrev pub NoneLeads : Program → Action → Wanted → Type 0
NoneLeads program action to = (p : ℕ) → action_at program p ≡ Some action → Meets program to p → ⊥
