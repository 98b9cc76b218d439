use Rattle.std.proofs.Common.{◌≡◌, subst, sym}
use Rattle.lk_names.specs.InScope.{InScope, IsKnownScope, env_in}
use Rattle.lk_types.specs.Table.{Table}
use Rattle.lk_typed.specs.Elements.{HasFewElements}
use Rattle.lk_typed.specs.Meaning.{IsReady}
use Rattle.lk_typed.specs.Units.{at_end}
use Rattle.lk_found.specs.Structs.{AreListed}
use Rattle.lk_checker.specs.declared.checker.Outside.{Outside}
use Rattle.lk_checker.specs.Sources.{IsOutsideOf, RecordsOf, TellsFirst}
use Rattle.lk_check_unit.proofs.source.check.Goals as goal

pub returns-in-Ok-clause-ok : goal.returns-in-Ok-clause-ok
returns-in-Ok-clause-ok c = subst (TellsFirst c.args.externs.now c.args.unit.now) c.in-Ok.ensures.ok c.in_ok-checker.ensures.told

pub returns-in-Ok-clause-ready : goal.returns-in-Ok-clause-ready
returns-in-Ok-clause-ready c = subst IsReady (sym c.in-Ok.ensures.types) c.in_ok-checker.ensures.ready

pub returns-in-Ok-clause-few : goal.returns-in-Ok-clause-few
returns-in-Ok-clause-few c = subst HasFewElements (sym c.in-Ok.ensures.types) c.in_ok-checker.ensures.few

pub returns-in-Ok-clause-records : goal.returns-in-Ok-clause-records
returns-in-Ok-clause-records c =
    subst (λ table. RecordsOf c.args.externs.now c.args.unit.now table c.in-Ok.checked.records) (sym c.in-Ok.ensures.types)
    (subst (RecordsOf c.args.externs.now c.args.unit.now c.in_ok-checker.checker.types) (sym c.in-Ok.ensures.records) c.in_ok-checker.ensures.records)

pub returns-in-Ok-clause-behind : goal.returns-in-Ok-clause-behind
returns-in-Ok-clause-behind c =
    let checker = c.in_ok-checker.checker in
    let checked = c.in-Ok.checked in
    let last = at_end c.args.externs.now c.args.unit.now in
    record {
      scope = subst (λ (table : Table). env_in table last checked.names ≡ last) (sym c.in-Ok.ensures.types)
          (subst (λ (names : InScope). env_in checker.types last names ≡ last) (sym c.in-Ok.ensures.names) c.in_ok-checker.ensures.scope.scope);
      known = subst (λ (table : Table). IsKnownScope table checked.names) (sym c.in-Ok.ensures.types)
          (subst (λ (names : InScope). IsKnownScope checker.types names) (sym c.in-Ok.ensures.names) c.in_ok-checker.ensures.known);
      structs = subst (λ (table : Table). AreListed table checked.names.structs) (sym c.in-Ok.ensures.types)
          (subst (λ (names : InScope). AreListed checker.types names.structs) (sym c.in-Ok.ensures.names) c.in_ok-checker.ensures.structs);
      outside = subst (λ (o : Outside). IsOutsideOf o c.args.externs.now c.args.unit.now) (sym c.in-Ok.ensures.outside) c.in_ok-checker.ensures.outside;
    }

pub returns-in-Err-clause-err : goal.returns-in-Err-clause-err
returns-in-Err-clause-err c = subst (TellsFirst c.args.externs.now c.args.unit.now) c.in-Err.ensures.err c.in_ok-checker.ensures.told
