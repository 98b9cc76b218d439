use Rattle.std.proofs.Common.{◌∙◌, sym, ap}
use Rattle.std.specs.Prelude.{is_some}
use Rattle.lk_check_expr.proofs.FunctionRows.{row_there}
use Rattle.lk_typed.specs.Library.{library_function}
use Rattle.lk_link.proofs.Noting.{some_there}
use Rattle.lk_link.proofs.absent.is_library.Goals as goal

pub returns : goal.returns
returns c = some_there (library_function c.args.name.now) c.is_some.result (c.is_some.ensures ∙ sym (ap is_some c.of.ensures ∙ row_there c.of.result))
