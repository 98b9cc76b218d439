use Rattle.std.proofs.Common.{◌∙◌, ap, sym}
use Rattle.lk_types.specs.Sizes.{form_size, is_too_large}
use Rattle.lk_types.proofs.RoomLemmas.{too_large}
use Rattle.lk_types.proofs.table.TypeTable.is_large_form.Goals as goal

pub returns-in-Some : goal.returns-in-Some
returns-in-Some c = c.is_too_large.ensures ∙ ap is_too_large c.in-Some.ensures.0

pub returns-in-None : goal.returns-in-None
returns-in-None c = sym (too_large (form_size c.args.self.now c.args.form.now) c.in-None.ensures)
