use Rattle.std.proofs.Common.{◌≡◌, ◌∙◌, ◌<◌, ◌∷◌, drop, drop-cons, get_or, length, sym, ap, arith}
use Rattle.lk_typed.specs.declared.expression.Callee.TheOpen.{LibraryCall-F}
use Rattle.lk_typed.specs.declared.library.LibraryCall.TheVariants as call
use Rattle.lk_elab_expr.proofs.FormsAt.{call_made_of}
use Rattle.lk_elab_expr.proofs.library.print.Goals as goal

pub returns : goal.returns
returns c =
    let items = c.into_vec-values.result.items in
    let a = c.in_ok-format.format in
    let some : 0 < length items = grind (arith, c.is_empty.ensures, c.if-is_empty.false, c.into_vec-values.result.ok.0) in
    let first : a ≡ get_or items 0 c.remove.result = c.in_ok-format.ensures ∙ c.remove.ensures.value in
    let rest = c.new-2.ensures ∙ c.remove.ensures.items in
    record {
      format = a;
      others = c.new-2.result;
      given = sym c.into_vec-values.ensures ∙ drop-cons items 0 c.remove.result some ∙ ap (λ x. x ∷ drop 1 items) (sym first) ∙ ap (λ xs. a ∷ xs) (sym rest);
      made = call_made_of (call.Print a c.new-2.result) (LibraryCall-F.Print a c.new-2.result) (call.rolls-Print a c.new-2.result);
    }
