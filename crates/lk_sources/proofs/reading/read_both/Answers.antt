use Rattle.std.proofs.Common.{◌∙◌, Err, IfErr, Bor, List, ℕ, All, map, sym, ap, subst}
use Rattle.std.proofs.lemmas.Result.{err_from_is_err_and}
use Rattle.lk_io.specs.Shelf.{IsFileName}
use Rattle.lk_words.specs.Seen.{seen}
use Rattle.lk_sources.specs.Calls.{AreNoFiles, AreNotBoth}
use Rattle.lk_sources.proofs.Both.{each_may, files_may, sources_fail}
use Rattle.lk_sources.proofs.InOrder.{telling}
use Rattle.lk_sources.proofs.reading.read_both.Goals as goal

pub read_files-requires : goal.read_files-requires
read_files-requires g c =
    subst (λ (l : List (Bor (List ℕ))). All (λ name. IsFileName name.now) l) (sym c.as_slice.ensures.value) (each_may c.args.command.now.files.items (files_may (seen c.args.command.now) c.requires))

pub returns-in_err-sources-clause-err : goal.returns-in_err-sources-clause-err
returns-in_err-sources-clause-err g c =
    let p = err_from_is_err_and c.from_residual-in_err-sources.result c.from_residual-in_err-sources.ensures.1 in
    let fault = c.in_err-sources.field-0.0 in
    let command = seen c.args.command.now in
    let held = g.F.Shelf.held in
    let bad = g.F.Shelf.bad in
    let faults = g.F.Shelf.faults in
    let s0 = c.args.shelf.now in
    let s1 = c.read_own.new.shelf in
    let s2 = c.read_files.new.shelf in
    let own = c.in_ok-own.own in
    let none =
    subst (λ (l : List (Bor (List ℕ))). AreNoFiles (map (λ name. name.now) l) 1048576 (telling (held s1) (bad s2) (faults s1) (faults s2)) fault) c.as_slice.ensures.value c.in_err-sources.ensures.err in
    subst (λ result. IfErr result (AreNotBoth command (telling (held s0) (bad s2) (faults s0) (faults s2)))) (sym (p.1 ∙ ap Err p.2))
    (sources_fail command (held s0) (held s1) (bad s1) (bad s2) (faults s0) (faults s1) (faults s2) own.externs own.beside c.in_ok-own.ensures.held c.in_ok-own.ensures.ok fault none)
