use Rattle.std.proofs.Common.{◌≡◌, ◌+◌, ◌∙◌, suc, ap, length, subst, sym, arith}
use Rattle.std.proofs.lemmas.Option.{same_Some}
use Rattle.lk_facts.specs.EdgeRules.{Of}
use Rattle.lk_facts.specs.LabelRules.{IsPart, form_of}
use Rattle.lk_facts.specs.Paths.{opposite}
use Rattle.lk_facts.specs.declared.label_entry.LabelName.{LabelName}
use Rattle.lk_types.specs.Table.{Table, fields_of, type_at}
use Rattle.lk_types.specs.declared.node.Sel.TheVariants.{Field, Target}
use Rattle.lk_flow.specs.Closing.{ParametersBoth}
use Rattle.lk_flow.specs.Finding.{Finds}
use Rattle.lk_flow.specs.Growing.{Adds, IsPair}
use Rattle.lk_flow.proofs.Counting.{upto_none, upto_more, upto_all}
use Rattle.lk_flow.proofs.FieldLists.{parameters_below, parameters_put}
use Rattle.lk_flow.proofs.Finders.{joined}
use Rattle.lk_flow.proofs.close.put_parameters.Goals as goal

pub loop-k-init : goal.loop-k-init
loop-k-init c = λ u v code. upto_none c.args.labels.now.names (ParametersBoth c.args.points.now u v c.args.edge.now.mark) c.args.found.now

pub loop-k-preserved : goal.loop-k-preserved
loop-k-preserved c = λ u v code.
    let program = c.args.points.now in
    let names = c.args.labels.now.names in
    let different = c.requires.labels.different in
    let m = c.args.edge.now.mark in
    let k = c.loop-k.k in
    let next : k + 1 ≡ suc k = omega arith in
    let from = subst (λ j. Finds names (Of program (IsPart program v (Field j)) Target) c.behind-from.result) next (c.behind-from.ensures.found v code.ends.ends) in
    let to = subst (λ j. Finds names (Of program (IsPart program u (Field j)) Target) c.behind-to.result) next (c.behind-to.ensures.found u code.ends.begins) in
    let adds = subst (λ n. Adds (IsPair c.behind-from.result c.behind-to.result n) c.loop-k.found c.put.new.self) c.opposite-back.ensures c.in_ok-put.ensures in
    upto_more names (ParametersBoth program u v m) k c.args.found.now c.loop-k.found c.put.new.self (c.loop-k.invariant u v code)
    (parameters_put program names u v m k c.loop-k.found c.put.new.self code.from code.to
    (joined names different (opposite m) (Of program (IsPart program v (Field (suc k))) Target) (Of program (IsPart program u (Field (suc k))) Target) c.behind-from.result c.behind-to.result c.loop-k.found c.put.new.self from to adds))

pub returns : goal.returns
returns c = λ u v code.
    let program = c.args.points.now in
    let names = c.args.labels.now.names in
    let m = c.args.edge.now.mark in
    let name = c.name_of-name.result in
    let same : name ≡ u = same_Some name u (sym c.name_of-name.ensures.name ∙ code.ends.begins) in
    let count : c.field_count-k-end.result ≡ length (fields_of program.types (form_of program.types u.node)) = c.field_count-k-end.ensures
    ∙ (ap (λ t. length (fields_of c.types-types.result.now (type_at c.types-types.result.now t))) c.node_type.ensures.value
    ∙ (ap (λ (table : Table). length (fields_of table (form_of table name.node))) c.types-types.ensures ∙ ap (λ (x : LabelName). length (fields_of program.types (form_of program.types x.node))) same)) in
    upto_all names (ParametersBoth program u v m) c.loop-k.k c.args.found.now c.loop-k.found
    (λ k x y n is. (let below = parameters_below program names u v m k x y n is in omega (arith, below, count, c.loop-k-test.false))) (c.loop-k.invariant u v code)
