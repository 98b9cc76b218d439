use Rattle.std.proofs.Common.{◌∙◌, Err, IfErr, sym, ap, subst}
use Rattle.std.proofs.lemmas.Result.{err_from_is_err_and}
use Rattle.lk_words.specs.Seen.{seen}
use Rattle.lk_sources.specs.Calls.{AreNotBoth}
use Rattle.lk_sources.proofs.Both.{beside_fails, beside_may}
use Rattle.lk_sources.proofs.InOrder.{telling}
use Rattle.lk_sources.proofs.reading.read_own.Goals as goal

pub read_beside-requires : goal.read_beside-requires
read_beside-requires g c = beside_may (seen c.args.command.now) c.requires

pub returns-in_err-beside-clause-err : goal.returns-in_err-beside-clause-err
returns-in_err-beside-clause-err g c =
    let p = err_from_is_err_and c.from_residual-in_err-beside.result c.from_residual-in_err-beside.ensures.1 in
    let fault = c.in_err-beside.field-0.0 in
    let command = seen c.args.command.now in
    let held = g.F.Shelf.held in
    let bad = g.F.Shelf.bad in
    let faults = g.F.Shelf.faults in
    let s0 = c.args.shelf.now in
    let s1 = c.read_named.new.shelf in
    let s2 = c.read_beside.new.shelf in
    subst (λ result. IfErr result (AreNotBoth command (telling (held s0) (bad s2) (faults s0) (faults s2)))) (sym (p.1 ∙ ap Err p.2))
    (beside_fails command (held s0) (held s1) (bad s1) (bad s2) (faults s0) (faults s1) (faults s2) c.in_ok-externs.externs c.in_ok-externs.ensures.held c.in_ok-externs.ensures.ok fault c.in_err-beside.ensures.err)
