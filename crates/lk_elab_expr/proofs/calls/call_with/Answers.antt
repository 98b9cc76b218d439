use Rattle.std.proofs.Common.{sym, subst}
use Rattle.lk_typed.specs.declared.expression.Callee.TheOpen.{Callee-F, TypedForm-F}
use Rattle.lk_typed.specs.declared.expression.Callee.TheVariants as callee
use Rattle.lk_typed.specs.declared.expression.TypedForm.TheVariants as form
use Rattle.lk_typed.specs.declared.expression.TypedForm.{out-TypedForm}
use Rattle.lk_elab_expr.specs.Calling.{IsCallWith}
use Rattle.lk_elab_expr.proofs.FormsAt.{callee_made_of, made_of}
use Rattle.lk_elab_expr.proofs.calls.call_with.Goals as goal

pub returns-in_ok-call-in-Library : goal.returns-in_ok-call-in-Library
returns-in_ok-call-in-Library c =
    let call = c.in_ok-call-in-Library.call in
    subst (λ way. IsCallWith way c.args.values (out-TypedForm (form.Library call))) (sym c.in-Library.is)
    (call, made_of (form.Library call) (TypedForm-F.Library call) (form.rolls-Library call), c.in_ok-call-in-Library.ensures)

pub returns-in-Extern : goal.returns-in-Extern
returns-in-Extern c =
    let e = c.in-Extern.entity in
    let values = c.args.values in
    subst (λ way. IsCallWith way values (out-TypedForm (form.Extern e values))) (sym c.in-Extern.is) (made_of (form.Extern e values) (TypedForm-F.Extern e values) (form.rolls-Extern e values))

pub returns-in-Program : goal.returns-in-Program
returns-in-Program c =
    let e = c.in-Program.entity in
    let values = c.args.values in
    let to = callee.Function e in
    subst (λ way. IsCallWith way values (out-TypedForm (form.Call to values))) (sym c.in-Program.is)
    (to, made_of (form.Call to values) (TypedForm-F.Call to values) (form.rolls-Call to values), callee_made_of to (Callee-F.Callee::Function e) (callee.rolls-Function e))
