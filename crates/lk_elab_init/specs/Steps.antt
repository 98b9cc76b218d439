-- Steps of paths of one place.
use Rattle.std.specs.Prelude.{Bool, true, false, nat_eq}
use Rattle.lk_base.specs.declared.cell.CellStep.{CellStep}
use Rattle.lk_base.specs.declared.cell.CellStep.TheVariants.{Field, Index}

-- they differ in indices alone
abbrev pub is_alike_step : CellStep → CellStep → Bool
is_alike_step (Field k) (Field j) = nat_eq k j
is_alike_step (Field k) (Index i) = false
is_alike_step (Index i) (Field k) = false
is_alike_step (Index i) (Index j) = true
