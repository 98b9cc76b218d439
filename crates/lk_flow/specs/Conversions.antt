-- The edges of a conversion, by the types of the two values. Only the private
-- calls of this crate speak of it.
use Rattle.std.specs.Prelude.{◌⊎◌, ℕ}
use Rattle.lk_facts.specs.EdgeRules.{In, Loc, Sub, target, value}
use Rattle.lk_facts.specs.Typed.{IsForm}
use Rattle.lk_facts.specs.declared.edge.Mark.{Mark}
use Rattle.lk_facts.specs.declared.edge.Mark.TheVariants.{Plain}
use Rattle.lk_facts.specs.declared.label_entry.LabelName.{LabelName}
use Rattle.lk_facts.specs.declared.program.Program.{Program}
use Rattle.lk_types.specs.Equal.{IsAlike}
use Rattle.lk_types.specs.declared.c_type.CType.TheVariants.{Pointer, Void}
use Rattle.lk_types.specs.declared.node.Sel.TheVariants.{Part}

module _ (program : Program) where
  -- from a value of type s to one of type t, where these are equal but for the sizes of arrays
  abbrev pub IsAlikeSub : (a s p t : ℕ) → LabelName → LabelName → Mark → Type 0
  IsAlikeSub a s p t u v m =
      IsAlike program.types.types s t × Sub program Plain (value program a) (value program p) u v m

  -- from a pointer to x to one to y, where y is void
  abbrev pub ToVoid : (a x p y : ℕ) → LabelName → LabelName → Mark → Type 0
  ToVoid a x p y u v m =
      IsForm program.types y Void
      × Loc program Plain (target program a) (In program (target program p) (Part x)) u v m

  -- from a pointer to x to one to y, where x is void
  abbrev pub FromVoid : (a x p y : ℕ) → LabelName → LabelName → Mark → Type 0
  FromVoid a x p y u v m =
      IsForm program.types x Void
      × Loc program Plain (In program (target program a) (Part y)) (target program p) u v m

  -- from a value of type s to one of type t, where both are pointers
  pub record PointersConvert (a s p t : ℕ) (u v : LabelName) (m : Mark) : Type 0 where
    pub x : ℕ
    pub y : ℕ
    pub from : IsForm program.types s (Pointer x)
    pub to : IsForm program.types t (Pointer y)
    pub either : ToVoid a x p y u v m ⊎ FromVoid a x p y u v m
