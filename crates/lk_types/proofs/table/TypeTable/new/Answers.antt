use Rattle.std.proofs.Common.{◌≡◌, ◌∙◌, ap, arith, sym, take}
use Rattle.lk_types.specs.Predeclared.{predeclared}
use Rattle.lk_types.proofs.NodeLemmas.{none_past}
use Rattle.lk_types.proofs.NewLemmas.{kept_empty, first_is, predeclared_form, predeclared_small, predeclared_new, predeclared_more, predeclared_within}
use Rattle.lk_types.proofs.table.TypeTable.new.Goals as goal

pub invariant_of-table : goal.invariant_of-table
invariant_of-table c = kept_empty c.new.ensures c.new-2.ensures c.new-3.ensures.items (c.new-5.ensures ∙ c.new-4.ensures.items)

pub add-requires-clause-form : goal.add-requires-clause-form
add-requires-clause-form c = predeclared_form c.loop-form.table c.loop-form.number c.in-Some.form (sym c.in-Some.ensures)

pub add-requires-clause-small : goal.add-requires-clause-small
add-requires-clause-small c = predeclared_small c.loop-form.table c.loop-form.number c.in-Some.form (sym c.in-Some.ensures)

pub add-requires-clause-new : goal.add-requires-clause-new
add-requires-clause-new c = predeclared_new c.loop-form.table.types c.loop-form.number c.in-Some.form (sym c.in-Some.ensures) c.loop-form.invariant.0

pub loop-form-preserved : goal.loop-form-preserved
loop-form-preserved c =
    let added = c.in_ok-add.ensures.ok.1 in
    let within = predeclared_within c.loop-form.number c.in-Some.form (sym c.in-Some.ensures) in (
      added.types ∙ predeclared_more c.loop-form.table.types c.loop-form.number c.in-Some.form (sym c.in-Some.ensures) c.loop-form.invariant.0,
      added.members ∙ c.loop-form.invariant.1,
      added.parts ∙ c.loop-form.invariant.2,
      omega arith,
    )

pub returns : goal.returns
returns c =
    let past = none_past predeclared c.loop-form.number (sym c.predeclared.ensures ∙ c.in_default.is) in
    let number : c.loop-form.number ≡ 19 = omega (arith, past, c.loop-form.invariant.3) in
    first_is c.loop-form.table c.is_table.ensures (c.loop-form.invariant.0 ∙ ap (λ n. take n predeclared) number) c.loop-form.invariant.1 c.loop-form.invariant.2
