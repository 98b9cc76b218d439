-- Types that are put into the table for given trees.
use Rattle.std.specs.Prelude.{ℕ, ◌≡◌, false, All, List, map, unwrap_or, slice_get}
use Rattle.lk_types.specs.Building.{IsLonger}
use Rattle.lk_types.specs.Predeclared.{predeclared}
use Rattle.lk_types.specs.Table.{Table, IsKnown}
use Rattle.lk_types.specs.declared.c_type.CType.TheVariants as forms
use Rattle.lk_typed.specs.Bounds.{is_large}
use Rattle.lk_typed.specs.Elements.{HasFewElements}
use Rattle.lk_typed.specs.Meaning.{meaning, tree_of, IsReady}
use Rattle.lk_typed.specs.Ty.{Ty, Void}

-- a number of the table for a tree
pub record IsPlain (table : Table) (tree : Ty) (t : ℕ) : Type 0 where
  pub known : IsKnown table t
  pub means : meaning table t ≡ tree

-- numbers for the trees of a list, one by one
pub record ArePlain (table : Table) (trees : List Ty) (ts : List ℕ) : Type 0 where
  pub known : All (IsKnown table) ts
  pub means : map (meaning table) ts ≡ trees

-- the tree of a predeclared number: it is made of nothing else
abbrev pub first_tree : ℕ → Ty
first_tree n = tree_of (λ u. Void) (unwrap_or (slice_get predeclared n) forms.Void)

-- within the bounds, whatever the structs have
abbrev pub IsSmall : Ty → Type 0
IsSmall tree = (fields : ℕ → List Ty) → is_large fields tree ≡ false

-- the table has more types, and the same members
pub record Grows (old new : Table) : Type 0 where
  pub longer : IsLonger old new
  pub members : new.members ≡ old.members
  pub ready : IsReady new
  pub few : HasFewElements old → HasFewElements new
