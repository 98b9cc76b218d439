use Rattle.std.proofs.Common.{IfOk, sym, subst}
use Rattle.std.proofs.lemmas.List.Elements.{All-cons}
use Rattle.lk_types.specs.Building.{IsPassed}
use Rattle.lk_check_expr.specs.Functions.{rows_of}
use Rattle.lk_predeclared.specs.Functions.{result_by}
use Rattle.lk_predeclared.specs.Plain.{IsPlain, IsSmall}
use Rattle.lk_predeclared.proofs.FirstPlain.{grows_on, grows_then, passes}
use Rattle.lk_predeclared.proofs.Rows.{function_small, params_passed, plain_stays, result_holds_none, type_is}
use Rattle.lk_predeclared.proofs.functions.function_type.Goals as goal

pub function_of_types-requires-clause-passed : goal.function_of_types-requires-clause-passed
function_of_types-requires-clause-passed c =
    let table = c.parameter_types.new.types in
    let good = c.in_ok-params.ensures.grows.ready.table_is in
    let returned = c.in_ok-returned.returned in
    let row = rows_of c.args.function in
    All-cons (IsPassed table) returned c.in_ok-params.params.items
    (passes table good returned (result_by row)
    (plain_stays c.result_type.new.types table c.in_ok-returned.ensures.grows.ready.table_is c.in_ok-params.ensures.grows.longer (result_by row) returned c.in_ok-returned.ensures.plain)
    (result_holds_none c.args.function))
    (params_passed table good c.parameters.result.now c.in_ok-params.params.items c.in_ok-params.ensures.plain)

pub function_of_types-requires-clause-small : goal.function_of_types-requires-clause-small
function_of_types-requires-clause-small c =
    let table = c.parameter_types.new.types in
    let row = rows_of c.args.function in
    let returned = plain_stays c.result_type.new.types table c.in_ok-returned.ensures.grows.ready.table_is c.in_ok-params.ensures.grows.longer (result_by row) c.in_ok-returned.returned c.in_ok-returned.ensures.plain in
    subst IsSmall
    (sym
    (type_is table row c.in_ok-returned.returned c.in_ok-params.params.items c.has_dots.result c.parameters.result.now returned.means c.in_ok-params.ensures.plain.means c.parameters.ensures c.has_dots.ensures))
    (function_small c.args.function)

pub returns-clause-plain : goal.returns-clause-plain
returns-clause-plain c =
    let table = c.parameter_types.new.types in
    let row = rows_of c.args.function in
    let returned = plain_stays c.result_type.new.types table c.in_ok-returned.ensures.grows.ready.table_is c.in_ok-params.ensures.grows.longer (result_by row) c.in_ok-returned.returned c.in_ok-returned.ensures.plain in
    subst (λ tree. IfOk c.function_of_types.result (IsPlain c.function_of_types.new.types tree))
    (type_is table row c.in_ok-returned.returned c.in_ok-params.params.items c.has_dots.result c.parameters.result.now returned.means c.in_ok-params.ensures.plain.means c.parameters.ensures c.has_dots.ensures)
    c.function_of_types.ensures.plain

pub returns-clause-grows : goal.returns-clause-grows
returns-clause-grows c =
    grows_on c.args.types.now c.parameter_types.new.types c.function_of_types.new.types c.function_of_types.result
    (grows_then c.args.types.now c.result_type.new.types c.parameter_types.new.types c.in_ok-returned.ensures.grows c.in_ok-params.ensures.grows) c.function_of_types.ensures.grows
