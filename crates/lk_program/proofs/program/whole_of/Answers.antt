use Rattle.std.proofs.Common.{arith}
use Rattle.std.proofs.lemmas.Result.{IfOk-weaker}
use Rattle.lk_join.specs.Program.{IsLinked}
use Rattle.lk_sources.specs.Accepting.{units_of}
use Rattle.lk_program.specs.Program.{IsProgram}
use Rattle.lk_program.proofs.Typed.{all_ready, all_sources, all_typed, as_many, unlinked}
use Rattle.lk_program.proofs.program.whole_of.Goals as goal

pub typed_units-requires : goal.typed_units-requires
typed_units-requires c = all_ready c.args.externs.now c.args.sources.items c.requires.checked

pub link-requires-clause-sources : goal.link-requires-clause-sources
link-requires-clause-sources c =
    all_sources c.typed_units_are_sources.ensures c.args.externs.now (units_of c.args.sources.items) c.in_ok-units.units.items
    (all_typed c.args.externs.now c.args.sources.items c.in_ok-units.units.items c.requires.checked c.requires.numbered c.in_ok-units.ensures)

pub link-requires-clause-few : goal.link-requires-clause-few
link-requires-clause-few c = omega (arith, as_many c.args.sources.items c.in_ok-units.units.items c.in_ok-units.ensures, c.requires.few)

pub returns-clause-ok : goal.returns-clause-ok
returns-clause-ok c =
    let units = c.in_ok-units.units.items in
    let trees = units_of c.args.sources.items in
    let typed = all_typed c.args.externs.now c.args.sources.items units c.requires.checked c.requires.numbered c.in_ok-units.ensures in
    IfOk-weaker c.link.result (IsLinked units c.args.externs.now) (IsProgram c.args.externs.now trees) (λ whole linked. record { units = units; typed = typed; linked = linked }) c.link.ensures.ok

pub returns-clause-err : goal.returns-clause-err
returns-clause-err c =
    let units = c.in_ok-units.units.items in
    unlinked c.args.externs.now (units_of c.args.sources.items) units
    (all_typed c.args.externs.now c.args.sources.items units c.requires.checked c.requires.numbered c.in_ok-units.ensures) c.link.result c.link.ensures.err
