-- One step on the way to a part of an object (C99 6.5.2.1, 6.5.2.3).
use Rattle.std.specs.Prelude.{ℕ, ◌<◌}
use Rattle.lk_base.specs.declared.cell.CellStep.{CellStep}
use Rattle.lk_base.specs.declared.cell.CellStep.TheVariants.{Field, Index}
use Rattle.lk_facts.specs.Typed.{IsForm, IsMember}
use Rattle.lk_types.specs.Table.{Table}
use Rattle.lk_types.specs.declared.c_type.CType.TheVariants.{Array}

-- the step leads from an object of type t to a part of type u that is there
abbrev pub LeadsTo : Table → (t : ℕ) → CellStep → (u : ℕ) → Type 0
LeadsTo table t (Field k) u = IsMember table t k u
LeadsTo table t (Index i) u = (n : ℕ) × IsForm table t (Array u n) × (i < n)
