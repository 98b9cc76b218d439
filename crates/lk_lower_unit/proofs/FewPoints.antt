-- A program whose points have numbers has no more of them than there may be.
use Rattle.std.proofs.Common.{arith, refl}
use Rattle.lk_facts.specs.declared.program.Program.{Program}
use Rattle.lk_lower_expr.specs.Lowering.{Numbers}
use Rattle.lk_lower_unit.specs.Counting.{number_by}
use Rattle.lk_lower_unit.specs.PointNumbers.{ArePointNumbers, HasMorePoints}
use Rattle.lk_lower_unit.specs.declared.bases.Bases.{Bases}
use Rattle.lk_typed.specs.declared.whole.Whole.{Whole}
use Rattle.lk_types.specs.declared.node.Base.TheVariants.{Start}

pub no_more : (whole : Whole) (found : Bases) (program : Program) → ArePointNumbers whole found → HasMorePoints whole 65536 → ⊥
no_more whole found program are more =
    let over = more numbers program found.count (are.order numbers program (λ s o k. refl)) in
    let few = are.few in omega (arith, over, few)
  where
    numbers : Numbers
    numbers = record {
      point = number_by found.bases;
      root = λ s o. 0;
      slot = λ s o. 0;
      function = λ s b. 0;
      pointer = λ t. 0;
      node = λ t path. record { base = Start 0; number = 0 };
    }
