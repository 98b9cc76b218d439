use Rattle.std.proofs.Common.{subst}
use Rattle.lk_tree.specs.declared.expression.DeclaratorForm.TheOpen.{ExprForm-F}
use Rattle.lk_typed.specs.Places.{sizeof_rule}
use Rattle.lk_typed.specs.Typing.{with_type}
use Rattle.lk_found.specs.Judging.{IsRuled}
use Rattle.lk_checker.proofs.Settling.{structs_are}
use Rattle.lk_checker.proofs.checker.Checker.settle_sizeof_type.Goals as goal

pub returns : goal.returns
returns c = λ env behind t is_in plain size named.
    let table = c.args.self.now.types in
    let structs = structs_are c.args.self.now behind c.structs.result.now is_in c.structs.ensures in
    c.in_ok-found.ensures env behind (ExprForm-F.SizeofType t) plain
    (subst (λ in_size. IsRuled table c.sizeof_type_ruled-ruled.result (with_type t.type (sizeof_rule behind.structs in_size))) size
    (subst (λ structs. IsRuled table c.sizeof_type_ruled-ruled.result (with_type t.type (sizeof_rule structs c.args.in_size))) structs (c.sizeof_type_ruled-ruled.ensures t.type named.type)))
    (c.sizeof-look.ensures env)
