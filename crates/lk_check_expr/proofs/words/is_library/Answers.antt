use Rattle.std.proofs.Common.{◌∙◌, sym, ap}
use Rattle.std.specs.Prelude.{is_some}
use Rattle.lk_check_expr.proofs.FunctionRows.{row_there}
use Rattle.lk_check_expr.proofs.words.is_library.Goals as goal

pub returns : goal.returns
returns c = c.is_some.ensures ∙ sym (ap is_some c.of.ensures ∙ row_there c.of.result)
