-- Edges that are put number by number. Only the private calls of this crate speak of it.
use Rattle.std.specs.Prelude.{◌≡◌, ◌<◌, ◌⊎◌, ℕ, suc, List, Some, slice_get}
use Rattle.lk_facts.specs.EdgeRules.{IsRootOf, In, Loc, Of, Row, Sub, code, parameter, place, result, target, value}
use Rattle.lk_facts.specs.Program.{action_at, function_at, value_site_of}
use Rattle.lk_facts.specs.declared.action.Action.{Action}
use Rattle.lk_facts.specs.declared.edge.Mark.{Mark}
use Rattle.lk_facts.specs.declared.edge.Mark.TheVariants.{Plain, Enter, Leave}
use Rattle.lk_facts.specs.declared.label_entry.LabelName.{LabelName}
use Rattle.lk_facts.specs.declared.program.Program.{Program}
use Rattle.lk_facts.specs.declared.root.RootKind.TheVariants.{Argv, Args}
use Rattle.lk_types.specs.declared.node.Sel.TheVariants.{Element, Field, Target}

-- what is joined for some number below n
abbrev pub UpTo : (ℕ → LabelName → LabelName → Mark → Type 0) → ℕ → LabelName → LabelName → Mark → Type 0
UpTo R n u v m = (k : ℕ) × (k < n) × R k u v m

-- what is joined for some number
abbrev pub AnyOf : (ℕ → LabelName → LabelName → Mark → Type 0) → LabelName → LabelName → Mark → Type 0
AnyOf R u v m = (k : ℕ) × R k u v m

module _ (program : Program) where
  -- for the argument k of a call of what a points to
  abbrev pub ArgumentThrough : (a : ℕ) → List ℕ → ℕ → LabelName → LabelName → Mark → Type 0
  ArgumentThrough a args k u v m =
      (b : ℕ) × (slice_get args k ≡ Some b)
      × Sub program Plain (value program b) (Of program (target program a) (Field (suc k))) u v m

  -- for the parameter k of a function that is used as a value at the site i
  abbrev pub ParameterOf : (g i : ℕ) → ℕ → LabelName → LabelName → Mark → Type 0
  ParameterOf g i k u v m =
      Sub program (Enter i) (Of program (code program g) (Field (suc k))) (parameter program g (suc k)) u v m

  -- for a function that is used as a value
  abbrev pub ValueAt : ℕ → LabelName → LabelName → Mark → Type 0
  ValueAt g u v m =
      (i : ℕ) × (value_site_of program g ≡ Some i)
      × (AnyOf (ParameterOf g i) u v m ⊎ Sub program (Leave i) (result program g) (Of program (code program g) (Field 0)) u v m)

  -- for the point p
  abbrev pub RowAt : ℕ → LabelName → LabelName → Mark → Type 0
  RowAt p u v m =
      (f : ℕ) × (act : Action) × (action_at program p ≡ Some act) × (function_at program p ≡ Some f)
      × Row program p f act u v m

  -- for the root r of main's strings, with the root q of the pointers to them
  abbrev pub ArgsAt : (r q : ℕ) → LabelName → LabelName → Mark → Type 0
  ArgsAt r q u v m =
      IsRootOf program Argv q × Loc program Plain (In program (place program r) Element)
      (Of program (In program (place program q) Element) Target) u v m

  -- for a root of main's parameters
  abbrev pub MainAt : ℕ → LabelName → LabelName → Mark → Type 0
  MainAt r u v m =
      (IsRootOf program Argv r
      × Loc program Plain (In program (place program r) Element)
      (Of program (parameter program program.main 2) Target) u v m)
      ⊎ (IsRootOf program Args r × AnyOf (ArgsAt r) u v m)
