use Rattle.std.proofs.Common.{◌∙◌, Some, sym, ap}
use Rattle.lk_typed.specs.declared.expression.Callee.TheOpen.{LibraryCall-F}
use Rattle.lk_typed.specs.declared.library.LibraryCall.TheVariants as call
use Rattle.lk_elab_expr.specs.LibraryForms.{call_of_one}
use Rattle.lk_elab_expr.proofs.FormsAt.{call_made_of}
use Rattle.lk_elab_expr.proofs.library.of_one.Goals as goal

pub returns-in-Exit : goal.returns-in-Exit
returns-in-Exit c =
    call_made_of (call.Exit (Some c.args.a)) (LibraryCall-F.Exit (Some c.args.a)) (call.rolls-Exit (Some c.args.a)) ∙ ap (λ making. call_of_one making c.args.a) (sym c.in-Exit.is)
