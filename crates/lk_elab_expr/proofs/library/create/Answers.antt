use Rattle.std.proofs.Common.{◌∙◌, ◌++◌, ◌∷◌, [], ap}
use Rattle.lk_typed.specs.declared.expression.Callee.TheOpen.{LibraryCall-F}
use Rattle.lk_typed.specs.declared.library.LibraryCall.TheVariants as call
use Rattle.lk_elab_expr.proofs.FormsAt.{call_made_of}
use Rattle.lk_elab_expr.proofs.library.create.Goals as goal

pub returns : goal.returns
returns c =
    let a = c.in_ok-id.id in
    let b = c.in_ok-argument.argument in
    record {
      id = a;
      argument = b;
      given = c.in_ok-argument.ensures ∙ ap (λ vs. vs ++ b ∷ []) (c.in_ok-id.ensures ∙ ap (λ vs. vs ++ a ∷ []) c.in_ok-nothing_left.ensures);
      made = call_made_of (call.Create a c.args.routine b) (LibraryCall-F.Create a c.args.routine b) (call.rolls-Create a c.args.routine b);
    }
