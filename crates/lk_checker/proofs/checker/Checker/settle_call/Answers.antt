use Rattle.std.proofs.Common.{sym}
use Rattle.lk_tree.specs.declared.expression.DeclaratorForm.TheOpen.{ExprForm-F}
use Rattle.lk_typed.specs.ExprRules.{any_holds_sizeof}
use Rattle.lk_found.proofs.Argued.{given_elsewhere}
use Rattle.lk_found.proofs.Lasting.{found_elsewhere}
use Rattle.lk_checker.proofs.checker.Checker.settle_call.Goals as goal

pub returns : goal.returns
returns c = λ env behind x ys plain outside role function arguments.
    let table = c.args.self.now.types in
    c.in_ok-found.ensures env behind (ExprForm-F.Call x ys) plain
    (c.call_ruled-ruled.ensures behind x ys role (found_elsewhere table env behind c.args.f.now x (sym outside) function) (given_elsewhere table env behind c.args.given.now ys (sym outside) arguments))
    (c.look_of_call-look.ensures env x.look (any_holds_sizeof ys) function.look arguments.holds_sizeof)
