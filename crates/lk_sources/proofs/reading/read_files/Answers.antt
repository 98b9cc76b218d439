use Rattle.std.proofs.Common.{◌∙◌, ◌≤◌, Err, IfErr, Bor, List, [], ℕ, get_or, take, drop, suc, map, length, refl, sym, ap, subst, arith}
use Rattle.std.proofs.lemmas.List.Elements.{All-nil, All-push}
use Rattle.std.proofs.lemmas.Result.{err_from_is_err_and}
use Rattle.lk_sources.specs.Calls.{AreNoFiles}
use Rattle.lk_sources.specs.Reading.{nothing}
use Rattle.lk_sources.proofs.InOrder.{telling, read_more, named_more, fails_behind}
use Rattle.lk_sources.proofs.Lists.{mapped_more, mapped_cut}
use Rattle.lk_sources.proofs.reading.read_files.Goals as goal

pub loop-name-init : goal.loop-name-init
loop-name-init g c =
    record {
      calm = refl;
      held = refl;
      named = rw c.new-sources.ensures.items refl;
      short = rw c.new-sources.ensures.items (All-nil (λ s. length s.bytes ≤ c.args.most));
      within = omega arith;
      read = λ held there. rw c.new-sources.ensures.items nothing;
    }

pub returns-in_err-source-clause-err : goal.returns-in_err-source-clause-err
returns-in_err-source-clause-err g c =
    let told = c.in_err-source.field-0.0 in
    let p = err_from_is_err_and c.from_residual.result c.from_residual.ensures.1 in
    let xs = c.args.names.now in
    let i = c.loop-name.name-index in
    let none : Bor (List ℕ) = record { ref_ptr = (0, 0); now = [] } in
    let shelf = telling (g.F.Shelf.held c.args.shelf.now) (g.F.Shelf.bad c.read_file.new.shelf) (g.F.Shelf.faults c.args.shelf.now) (g.F.Shelf.faults c.read_file.new.shelf) in
    let fault =
    fails_behind (g.F.Shelf.held c.args.shelf.now) (g.F.Shelf.held c.loop-name.shelf) (g.F.Shelf.bad c.read_file.new.shelf) (g.F.Shelf.faults c.args.shelf.now) (g.F.Shelf.faults c.loop-name.shelf)
    (g.F.Shelf.faults c.read_file.new.shelf) c.args.most c.loop-name.left (map (λ name. name.now) (take i xs)) (map (λ name. name.now) (drop (suc i) xs)) (get_or xs i none).now
    c.loop-name.sources.items told c.loop-name.invariant.held c.loop-name.invariant.calm c.loop-name.invariant.read c.in_err-source.ensures.err in
    subst (λ result. IfErr result (AreNoFiles (map (λ name. name.now) xs) c.args.most shelf)) (sym (p.1 ∙ ap Err p.2))
    (subst (λ names. AreNoFiles names c.args.most shelf told) (sym (mapped_cut (λ (name : Bor (List ℕ)). name.now) xs i none c.loop-name-test.true)) fault)

pub loop-name-preserved : goal.loop-name-preserved
loop-name-preserved g c =
    let xs = c.args.names.now in
    let i = c.loop-name.name-index in
    let none : Bor (List ℕ) = record { ref_ptr = (0, 0); now = [] } in
    let s = c.in_ok-source.source in
    let (calm, same, fits, there) = c.in_ok-source.ensures.ok in
    let longer = mapped_more (λ (name : Bor (List ℕ)). name.now) xs i none c.loop-name-test.true in
    record {
      calm = calm ∙ c.loop-name.invariant.calm;
      held = c.in_ok-source.ensures.held ∙ c.loop-name.invariant.held;
      named = rw c.in_ok-push.ensures.items (named_more c.loop-name.sources.items s _ _ _ c.loop-name.invariant.named same longer);
      short = rw c.in_ok-push.ensures.items (All-push (λ s. length s.bytes ≤ c.args.most) c.loop-name.sources.items s c.loop-name.invariant.short (omega (arith, fits, c.loop-name.invariant.within)));
      within = omega (arith, c.loop-name.invariant.within);
      read = λ held told.
          read_more held c.args.most c.loop-name.left c.len.result _ _ c.loop-name.sources.items c.push.new.self.items s (get_or xs i none).now (c.loop-name.invariant.read held told)
          (there held (c.loop-name.invariant.held ∙ told)) same fits longer c.in_ok-push.ensures.items c.len.ensures;
    }
