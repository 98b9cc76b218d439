use Rattle.std.proofs.Common.{◌∙◌, true, ap}
use Rattle.std.specs.Prelude.{not}
use Rattle.lk_types.specs.Sizes.{form_size}
use Rattle.lk_check_decl.proofs.Made.{over_form, fits_none, fits_some}
use Rattle.lk_check_decl.proofs.storing.stored.Goals as goal

pub returns-then-is_none-clause-ok : goal.returns-then-is_none-clause-ok
returns-then-is_none-clause-ok c =
    let table = c.args.types.now in
    over_form table c.is_table.ensures c.args.form c.requires.derived c.requires.form true
    (fits_none (form_size table c.args.form) c.form_size.result c.form_size.ensures (c.is_none.ensures ∙ ap not c.if-is_none.true))

pub store-requires-clause-small : goal.store-requires-clause-small
store-requires-clause-small c = fits_some (form_size c.args.types.now c.args.form) c.form_size.result c.form_size.ensures (c.is_none.ensures ∙ ap not c.if-is_none.false)
