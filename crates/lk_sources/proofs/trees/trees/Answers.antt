use Rattle.std.proofs.Common.{◌∙◌, [], Err, IfErr, List, map, sym, ap, subst, arith}
use Rattle.std.proofs.lemmas.Result.{err_from_is_err_and}
use Rattle.lk_parse_unit.specs.declared.parse.Parsed.{Parsed}
use Rattle.lk_sources.specs.Judging.{IsTreeFault}
use Rattle.lk_sources.specs.Trees.{AreTrees, nothing}
use Rattle.lk_sources.proofs.Lists.{map_push}
use Rattle.lk_sources.proofs.TreesUpto.{as_many, inside_at, trees_more, no_tree_next, trees_all}
use Rattle.lk_sources.proofs.trees.trees.Goals as goal

pub loop-index-init : goal.loop-index-init
loop-index-init c = subst (λ (l : List Parsed). AreTrees [] [] (map (λ parsed. parsed.unit) l)) (sym c.new-trees.ensures.items) nothing

pub bounds-lists-index : goal.bounds-lists-index
bounds-lists-index c = omega (arith, as_many c.args.sources.now c.args.lists.now c.requires, c.loop-index-test.true)

pub tree_of-requires : goal.tree_of-requires
tree_of-requires c =
    inside_at c.args.sources.now c.args.lists.now c.loop-index.index c.index-sources-index.result c.index-lists-index.result c.requires c.loop-index-test.true c.index-sources-index.is c.index-lists-index.is

pub returns-in_err-parsed-clause-err : goal.returns-in_err-parsed-clause-err
returns-in_err-parsed-clause-err c =
    let p = err_from_is_err_and c.from_residual.result c.from_residual.ensures.1 in
    let sources = c.args.sources.now in
    let lists = c.args.lists.now in
    subst (λ result. IfErr result (IsTreeFault sources lists)) (sym (p.1 ∙ ap Err p.2))
    (no_tree_next sources lists c.loop-index.index (map (λ parsed. parsed.unit) c.loop-index.trees.items) c.loop-index.invariant c.index-sources-index.result c.index-lists-index.result c.loop-index-test.true
    (omega (arith, as_many sources lists c.requires, c.loop-index-test.true)) c.index-sources-index.is c.index-lists-index.is c.in_err-parsed.field-0.0 c.in_err-parsed.ensures.err)

pub loop-index-preserved : goal.loop-index-preserved
loop-index-preserved c =
    let sources = c.args.sources.now in
    let lists = c.args.lists.now in
    trees_more sources lists c.loop-index.index (map (λ parsed. parsed.unit) c.loop-index.trees.items) c.loop-index.invariant c.index-sources-index.result c.index-lists-index.result c.loop-index-test.true
    (omega (arith, as_many sources lists c.requires, c.loop-index-test.true)) c.index-sources-index.is c.index-lists-index.is (map (λ parsed. parsed.unit) c.push.new.self.items) c.in_ok-parsed.parsed.unit
    (ap (map (λ (parsed : Parsed). parsed.unit)) c.in_ok-push.ensures.items ∙ map_push (λ (parsed : Parsed). parsed.unit) c.loop-index.trees.items c.in_ok-parsed.parsed) c.in_ok-parsed.ensures.ok

pub returns-clause-ok : goal.returns-clause-ok
returns-clause-ok c =
    let sources = c.args.sources.now in
    let lists = c.args.lists.now in
    trees_all sources lists c.loop-index.index (map (λ parsed. parsed.unit) c.loop-index.trees.items) c.loop-index.invariant c.loop-index-test.false (as_many sources lists c.requires)
