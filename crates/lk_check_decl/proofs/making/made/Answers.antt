use Rattle.std.proofs.Common.{◌∙◌, true, sym}
use Rattle.lk_types.specs.Sizes.{form_size}
use Rattle.lk_types.proofs.RoomLemmas.{not_over}
use Rattle.lk_check_decl.proofs.Made.{large_form, there}
use Rattle.lk_check_decl.proofs.making.made.Goals as goal

pub returns-then-is_large_form-clause-ok : goal.returns-then-is_large_form-clause-ok
returns-then-is_large_form-clause-ok c =
    large_form c.args.types.now c.is_table.ensures c.args.form c.requires.derived c.requires.form true (sym c.is_large_form.ensures ∙ c.if-is_large_form.true)

pub store-requires-clause-small : goal.store-requires-clause-small
store-requires-clause-small c = not_over (form_size c.args.types.now c.args.form) (sym c.is_large_form.ensures ∙ c.if-is_large_form.false)

pub returns-clause-ok : goal.returns-clause-ok
returns-clause-ok c =
    there c.args.types.now c.store.new.types c.is_table.ensures c.args.form c.requires.derived c.requires.form (sym c.is_large_form.ensures ∙ c.if-is_large_form.false) c.in_ok-t.t
    c.in_ok-t.ensures.ok
