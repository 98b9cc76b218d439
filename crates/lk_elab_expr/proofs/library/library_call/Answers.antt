use Rattle.std.proofs.Common.{◌∙◌, sym}
use Rattle.std.proofs.lemmas.Result.{IfOk-weaker}
use Rattle.lk_typed.specs.declared.expression.Callee.TheOpen.{LibraryCall-F}
use Rattle.lk_typed.specs.declared.library.LibraryCall.TheVariants as call
use Rattle.lk_typed.specs.declared.library.LibraryCall.{out-LibraryCall}
use Rattle.lk_elab_expr.specs.LibraryForms.IsCallOf.{listed, print}
use Rattle.lk_elab_expr.proofs.FormsAt.{call_made_of}
use Rattle.lk_elab_expr.proofs.LibraryRows.{by_all, by_none, by_one, by_two, print_is}
use Rattle.lk_elab_expr.proofs.library.library_call.Goals as goal

pub returns-in_ok-nothing_left-in-OfNone : goal.returns-in_ok-nothing_left-in-OfNone
returns-in_ok-nothing_left-in-OfNone c =
    listed (by_none c.args.function c.args.values (out-LibraryCall c.of_none.result) c.in-OfNone.making (sym c.in-OfNone.is ∙ c.making_of.ensures) c.in_ok-nothing_left-in-OfNone.ensures c.of_none.ensures)

pub returns-in-OfOne : goal.returns-in-OfOne
returns-in-OfOne c = IfOk-weaker c.call_of_one.result _ _ (λ made is. listed (by_one c.args.function c.args.values (out-LibraryCall made) c.in-OfOne.making (sym c.in-OfOne.is ∙ c.making_of.ensures) is)) c.call_of_one.ensures

pub returns-in-OfTwo : goal.returns-in-OfTwo
returns-in-OfTwo c = IfOk-weaker c.call_of_two.result _ _ (λ made is. listed (by_two c.args.function c.args.values (out-LibraryCall made) c.in-OfTwo.making (sym c.in-OfTwo.is ∙ c.making_of.ensures) is)) c.call_of_two.ensures

pub returns-in-OfAll : goal.returns-in-OfAll
returns-in-OfAll c =
    listed (by_all c.args.function c.args.values _ (sym c.in-OfAll.is ∙ c.making_of.ensures)
    (call_made_of (call.Compute c.args.values) (LibraryCall-F.Compute c.args.values) (call.rolls-Compute c.args.values)))

pub returns-in-Print : goal.returns-in-Print
returns-in-Print c = IfOk-weaker c.print.result _ _ (λ made is. print (print_is c.args.function (sym c.in-Print.is ∙ c.making_of.ensures)) is) c.print.ensures
