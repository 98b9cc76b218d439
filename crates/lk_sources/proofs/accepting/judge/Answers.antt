use Rattle.std.proofs.Common.{◌∙◌, All, Err, IfErr, length, map, sym, ap, subst}
use Rattle.std.proofs.lemmas.Result.{err_from_is_err_and}
use Rattle.lk_sources.specs.Accepting.{AreAccepted, IsPlaced}
use Rattle.lk_sources.specs.Calls.{AreAllInside, IsFaultIn}
use Rattle.lk_sources.specs.Judging.{IsJudged, IsTreeFault}
use Rattle.lk_sources.specs.Trees.{AreTrees}
use Rattle.lk_sources.proofs.FaultsUpto.{judged_split, judged_tree, judged_faulty}
use Rattle.lk_sources.proofs.Placing.{faulty_in, placed_all, tree_fault_in}
use Rattle.lk_sources.proofs.accepting.judge.Goals as goal

pub returns-in_err-lists-clause-err : goal.returns-in_err-lists-clause-err
returns-in_err-lists-clause-err c =
    let p = err_from_is_err_and c.from_residual.result c.from_residual.ensures.1 in
    subst (λ result. IfErr result (IsJudged c.args.files.now c.args.externs.now c.args.sources.now c.split_all.new.files)) (sym (p.1 ∙ ap Err p.2))
    (judged_split c.args.files.now c.args.externs.now c.args.sources.now c.split_all.new.files c.in_err-lists.field-0.0 c.in_err-lists.ensures.err)

pub trees-requires : goal.trees-requires
trees-requires c = subst (AreAllInside c.args.sources.now) (sym c.deref.ensures.value) c.in_ok-lists.ensures.inside

pub returns-in_err-trees-clause-err : goal.returns-in_err-trees-clause-err
returns-in_err-trees-clause-err c =
    let p = err_from_is_err_and c.from_residual-in_err-trees.result c.from_residual-in_err-trees.ensures.1 in
    let fault = c.in_err-trees.field-0.0 in
    subst (λ result. IfErr result (IsJudged c.args.files.now c.args.externs.now c.args.sources.now c.split_all.new.files)) (sym (p.1 ∙ ap Err p.2))
    (judged_tree c.args.files.now c.args.externs.now c.args.sources.now c.split_all.new.files c.in_ok-lists.lists.items c.in_ok-lists.ensures.ok c.in_ok-lists.ensures.supported fault
    (subst (λ l. IsTreeFault c.args.sources.now l fault) c.deref.ensures.value c.in_err-trees.ensures.err))

pub returns-in_err-accepted-clause-err : goal.returns-in_err-accepted-clause-err
returns-in_err-accepted-clause-err c =
    let p = err_from_is_err_and c.from_residual-in_err-accepted.result c.from_residual-in_err-accepted.ensures.1 in
    let units = map (λ parsed. parsed.unit) c.in_ok-trees.trees.items in
    subst (λ result. IfErr result (IsJudged c.args.files.now c.args.externs.now c.args.sources.now c.split_all.new.files)) (sym (p.1 ∙ ap Err p.2))
    (judged_faulty c.args.files.now c.args.externs.now c.args.sources.now c.split_all.new.files c.in_ok-lists.lists.items c.in_ok-lists.ensures.ok c.in_ok-lists.ensures.supported units
    (subst (λ l. AreTrees c.args.sources.now l units) c.deref.ensures.value c.in_ok-trees.ensures.ok) c.in_err-accepted.field-0.0 c.in_err-accepted.ensures.err)

pub returns-clause-ok : goal.returns-clause-ok
returns-clause-ok c =
    let units = map (λ parsed. parsed.unit) c.in_ok-trees.trees.items in
    subst (AreAccepted c.args.files.now c.args.externs.now c.args.sources.now c.split_all.new.files) (sym c.in_ok-accepted.ensures.units)
    (record {
      lists = c.in_ok-lists.lists.items;
      split = c.in_ok-lists.ensures.ok;
      supported = c.in_ok-lists.ensures.supported;
      trees = subst (λ l. AreTrees c.args.sources.now l units) c.deref.ensures.value c.in_ok-trees.ensures.ok;
      faultless = c.in_ok-accepted.ensures.ok;
    })

pub returns-clause-placed : goal.returns-clause-placed
returns-clause-placed c =
    let files = length c.split_all.new.files in
    let units = map (λ parsed. parsed.unit) c.in_ok-trees.trees.items in
    subst (All (IsPlaced files)) (sym c.in_ok-accepted.ensures.units)
    (placed_all files (subst (λ l. AreTrees c.args.sources.now l units) c.deref.ensures.value c.in_ok-trees.ensures.ok) c.in_ok-lists.ensures.filed)

pub returns-in_err-trees-clause-stands : goal.returns-in_err-trees-clause-stands
returns-in_err-trees-clause-stands c =
    let p = err_from_is_err_and c.from_residual-in_err-trees.result c.from_residual-in_err-trees.ensures.1 in
    let files = length c.split_all.new.files in
    let lists = c.in_ok-lists.lists.items in
    let fault = c.in_err-trees.field-0.0 in
    subst (λ result. IfErr result (IsFaultIn files)) (sym (p.1 ∙ ap Err p.2))
    (tree_fault_in c.args.sources.now lists files fault (subst (λ l. IsTreeFault c.args.sources.now l fault) c.deref.ensures.value c.in_err-trees.ensures.err) c.in_ok-lists.ensures.filed)

pub returns-in_err-accepted-clause-stands : goal.returns-in_err-accepted-clause-stands
returns-in_err-accepted-clause-stands c =
    let p = err_from_is_err_and c.from_residual-in_err-accepted.result c.from_residual-in_err-accepted.ensures.1 in
    let files = length c.split_all.new.files in
    let units = map (λ parsed. parsed.unit) c.in_ok-trees.trees.items in
    let trees = subst (λ l. AreTrees c.args.sources.now l units) c.deref.ensures.value c.in_ok-trees.ensures.ok in
    subst (λ result. IfErr result (IsFaultIn files)) (sym (p.1 ∙ ap Err p.2))
    (faulty_in c.faults_stand_in_files.ensures c.args.externs.now units files c.in_err-accepted.field-0.0 c.in_err-accepted.ensures.err (placed_all files trees c.in_ok-lists.ensures.filed))
