-- Edges that follow from edges. Only the private calls of this crate speak of it.
use Rattle.std.specs.Prelude.{◌≡◌, ◌<◌, ◌≤◌, ◌⊎◌, ℕ, suc, true, List, Some, Contains, length, slice_get}
use Rattle.lk_facts.specs.EdgeRules.{IsBehind, IsEdge, IsInside}
use Rattle.lk_facts.specs.LabelRules.{IsPart, form_of, is_function}
use Rattle.lk_facts.specs.Paths.{opposite}
use Rattle.lk_facts.specs.declared.edge.Edge.{Edge}
use Rattle.lk_facts.specs.declared.edge.Mark.{Mark}
use Rattle.lk_facts.specs.declared.label_entry.LabelName.{LabelName}
use Rattle.lk_facts.specs.declared.program.Program.{Program}
use Rattle.lk_types.specs.declared.node.Sel.{Sel}
use Rattle.lk_types.specs.declared.node.Sel.TheVariants.{Field, Part, Target}
use Rattle.lk_flow.specs.Counting.{AnyOf, MainAt, RowAt, ValueAt}
use Rattle.lk_flow.specs.Growing.{Joins}

-- the ends of an edge
pub record AreEnds (names : List LabelName) (e : Edge) (u v : LabelName) : Type 0 where
  pub begins : slice_get names e.from ≡ Some u
  pub ends : slice_get names e.to ≡ Some v

-- and both are functions
pub record AreCode (program : Program) (names : List LabelName) (e : Edge) (u v : LabelName) : Type 0 where
  pub ends : AreEnds names e u v
  pub from : is_function (form_of program.types u.node) ≡ true
  pub to : is_function (form_of program.types v.node) ≡ true

module _ (program : Program) where
  -- what u points to is joined with what v points to
  abbrev pub TargetsOf : (u v : LabelName) → Mark → LabelName → LabelName → Mark → Type 0
  TargetsOf u v m x y n = (n ≡ m) × IsPart program u Target x × IsPart program v Target y

  -- an edge between u and v joins what these point to, both ways
  abbrev pub TargetsBoth : (u v : LabelName) → Mark → LabelName → LabelName → Mark → Type 0
  TargetsBoth u v m x y n = TargetsOf u v m x y n ⊎ TargetsOf v u (opposite m) x y n

  -- and their parts in the same object
  abbrev pub InsideBoth : (u v : LabelName) → Mark → Sel → LabelName → LabelName → Mark → Type 0
  InsideBoth u v m s x y n = (n ≡ m) × IsInside program u s x × IsInside program v s y

  abbrev pub FieldsBoth : (u v : LabelName) → Mark → ℕ → LabelName → LabelName → Mark → Type 0
  FieldsBoth u v m k = InsideBoth u v m (Field k)

  abbrev pub PartsBoth : (u v : LabelName) → Mark → ℕ → LabelName → LabelName → Mark → Type 0
  PartsBoth u v m k x y n =
      (t : ℕ) × (slice_get program.types.parts k ≡ Some t) × InsideBoth u v m (Part t) x y n

  -- and of functions the results with it, and the parameters against it
  abbrev pub ResultsBoth : (u v : LabelName) → Mark → LabelName → LabelName → Mark → Type 0
  ResultsBoth u v m x y n = (n ≡ m) × IsBehind program u 0 x × IsBehind program v 0 y

  abbrev pub ParametersBoth : (u v : LabelName) → Mark → ℕ → LabelName → LabelName → Mark → Type 0
  ParametersBoth u v m k x y n =
      (n ≡ opposite m) × IsBehind program v (suc k) x × IsBehind program u (suc k) y

  abbrev pub FunctionsBoth : (u v : LabelName) → Mark → LabelName → LabelName → Mark → Type 0
  FunctionsBoth u v m x y n = ResultsBoth u v m x y n ⊎ AnyOf (ParametersBoth u v m) x y n

  -- all that follows from an edge between u and v in one step
  pub data Next (u v : LabelName) (m : Mark) (x y : LabelName) (n : Mark) : Type 0 where
    targets : TargetsBoth u v m x y n → Next u v m x y n
    inside : (s : Sel) → InsideBoth u v m s x y n → Next u v m x y n
    results : ResultsBoth u v m x y n → Next u v m x y n
    parameters : (k : ℕ) → ParametersBoth u v m k x y n → Next u v m x y n

  -- what rows, main's parameters and values join
  abbrev pub Base : LabelName → LabelName → Mark → Type 0
  Base u v m = AnyOf (RowAt program) u v m ⊎ (AnyOf (MainAt program) u v m ⊎ AnyOf (ValueAt program) u v m)

  -- the edges that are found, the first n of which have been followed
  pub record IsClosing (names : List LabelName) (n : ℕ) (es : List Edge) : Type 0 where
    pub within : n ≤ length es
    pub sound : (e : Edge) → Contains es e → Joins names (IsEdge program) e
    pub based : (e : Edge) → Joins names Base e → Contains es e
    pub done : (k : ℕ) (e f : Edge) (u v : LabelName) → k < n → slice_get es k ≡ Some e →
        AreEnds names e u v → Joins names (Next u v e.mark) f → Contains es f
