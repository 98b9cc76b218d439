use Rattle.std.proofs.Common.{◌∙◌, sym}
use Rattle.std.proofs.lemmas.Result.{IfOk-weaker}
use Rattle.lk_facts.specs.EdgeRules.{In, IsInside, Of, place}
use Rattle.lk_facts.specs.LabelRules.{IsPart}
use Rattle.lk_facts.specs.declared.edge.Mark.TheVariants.{Plain}
use Rattle.lk_types.specs.declared.node.Sel.TheVariants.{Element, Target}
use Rattle.lk_flow.proofs.ActionLists.{no_strings, strings_put}
use Rattle.lk_flow.proofs.Finders.{joined, through}
use Rattle.lk_flow.proofs.mains.put_strings.Goals as goal

pub returns-then-not-is_argv : goal.returns-then-not-is_argv
returns-then-not-is_argv c = no_strings c.args.points.now c.args.labels.now.names c.args.r c.args.q c.root.result.now c.args.found.now c.root.ensures.value (sym c.is_argv.ensures ∙ c.if-not-is_argv.true)

pub returns : goal.returns
returns c =
    let program = c.args.points.now in
    let names = c.args.labels.now.names in
    let different = c.requires.labels.different in
    let from = through names (place program c.args.r) (λ x. IsInside program x Element) c.place-strings.result c.inside-from.result c.place-strings.ensures.found c.inside-from.ensures.found in
    let pointer = through names (place program c.args.q) (λ x. IsInside program x Element) c.place-pointers.result c.inside-pointer.result c.place-pointers.ensures.found c.inside-pointer.ensures.found in
    let to = through names (In program (place program c.args.q) Element) (λ x. IsPart program x Target) c.inside-pointer.result c.target-to.result pointer c.target-to.ensures.found in
    IfOk-weaker c.put.result _ _ (λ _ adds. strings_put program names c.args.r c.args.q c.root.result.now c.args.found.now c.put.new.self c.root.ensures.value (sym c.is_argv.ensures ∙ c.if-not-is_argv.false)
    (joined names different Plain (In program (place program c.args.r) Element) (Of program (In program (place program c.args.q) Element) Target) c.inside-from.result c.target-to.result c.args.found.now c.put.new.self from to adds)) c.put.ensures
