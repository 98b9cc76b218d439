use Rattle.std.proofs.Common.{arith, subst}
use Rattle.std.proofs.lemmas.List.{take_all}
use Rattle.std.proofs.lemmas.List.Elements.{All-more, All-nil}
use Rattle.lk_typed.specs.declared.unit.TypedUnit.{TypedUnit}
use Rattle.lk_join.specs.Large.{HaveTypeTables, IsTypeTable}
use Rattle.lk_join.proofs.types.are_type_tables.Goals as goal

pub loop-unit-init : goal.loop-unit-init
loop-unit-init c = All-nil (λ (unit : TypedUnit). IsTypeTable unit.types)

pub loop-unit-preserved : goal.loop-unit-preserved
loop-unit-preserved c =
    All-more (λ (unit : TypedUnit). IsTypeTable unit.types) c.args.units.now c.loop-unit.unit-index c.unit-item.result c.loop-unit-test.true c.loop-unit.invariant
    (subst (λ (unit : TypedUnit). IsTypeTable unit.types) c.unit-item.is c.is_type_table.ensures)

pub returns : goal.returns
returns c = let past = c.loop-unit-test.false in subst HaveTypeTables (take_all c.loop-unit.unit-index c.args.units.now (omega (arith, past))) c.loop-unit.invariant
