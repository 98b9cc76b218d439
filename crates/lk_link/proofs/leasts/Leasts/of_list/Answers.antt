use Rattle.std.proofs.Common.{arith, sym, subst}
use Rattle.lk_types.proofs.KeptLemmas.{read_got}
use Rattle.lk_link.specs.Absent.{AreLeast}
use Rattle.lk_link.proofs.Noting.{IsListedBelow, listed_none, listed_more, listed_all}
use Rattle.lk_link.proofs.leasts.Leasts.of_list.Goals as goal

pub loop-name-init : goal.loop-name-init
loop-name-init c = subst (AreLeast (IsListedBelow c.args.names.now 0)) (sym c.new-leasts.ensures) (listed_none c.args.names.now)

pub loop-name-preserved : goal.loop-name-preserved
loop-name-preserved c =
    let names = c.args.names.now in
    let n = c.loop-name.name-index in
    let name = c.name-item.result in
    listed_more names c.loop-name.leasts c.note.new.self n name (read_got names n name c.loop-name-test.true c.name-item.is) c.loop-name.invariant c.in_ok-note.ensures

pub returns : goal.returns
returns c = listed_all c.args.names.now c.loop-name.leasts c.loop-name.name-index (omega arith) c.loop-name.invariant
