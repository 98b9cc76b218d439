use Rattle.std.proofs.Common.{◌≡◌, ◌∙◌, ap, length, sym, arith}
use Rattle.std.proofs.lemmas.Option.{same_Some}
use Rattle.lk_facts.specs.LabelRules.{form_of}
use Rattle.lk_facts.specs.declared.label_entry.LabelName.{LabelName}
use Rattle.lk_types.specs.Table.{Table, fields_of, type_at}
use Rattle.lk_flow.specs.Closing.{FieldsBoth}
use Rattle.lk_flow.proofs.Counting.{upto_none, upto_more, upto_all}
use Rattle.lk_flow.proofs.FieldLists.{fields_below}
use Rattle.lk_flow.proofs.close.put_fields.Goals as goal

pub loop-k-init : goal.loop-k-init
loop-k-init c = λ u v ends. upto_none c.args.labels.now.names (FieldsBoth c.args.points.now u v c.args.edge.now.mark) c.args.found.now

pub loop-k-preserved : goal.loop-k-preserved
loop-k-preserved c = λ u v ends.
    upto_more c.args.labels.now.names (FieldsBoth c.args.points.now u v c.args.edge.now.mark) c.loop-k.k c.args.found.now c.loop-k.found c.put_inside.new.found (c.loop-k.invariant u v ends) (c.in_ok-put_inside.ensures u v ends)

pub returns : goal.returns
returns c = λ u v ends.
    let program = c.args.points.now in
    let names = c.args.labels.now.names in
    let m = c.args.edge.now.mark in
    let name = c.name_of-name.result in
    let same : name ≡ u = same_Some name u (sym c.name_of-name.ensures.name ∙ ends.begins) in
    let count : c.field_count-k-end.result ≡ length (fields_of program.types (form_of program.types u.node)) = c.field_count-k-end.ensures
    ∙ (ap (λ t. length (fields_of c.types-types.result.now (type_at c.types-types.result.now t))) c.node_type.ensures.value
    ∙ (ap (λ (table : Table). length (fields_of table (form_of table name.node))) c.types-types.ensures ∙ ap (λ (x : LabelName). length (fields_of program.types (form_of program.types x.node))) same)) in
    upto_all names (FieldsBoth program u v m) c.loop-k.k c.args.found.now c.loop-k.found
    (λ k x y n is. (let below = fields_below program names u v m k x y n is in omega (arith, below, count, c.loop-k-test.false))) (c.loop-k.invariant u v ends)
