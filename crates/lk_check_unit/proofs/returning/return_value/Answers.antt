use Rattle.std.proofs.Common.{◌∙◌, ap}
use Rattle.lk_types.specs.Table.{Table}
use Rattle.lk_check_unit.specs.Converting.{role_of}
use Rattle.lk_check_unit.proofs.Asked.{grows_further}
use Rattle.lk_check_unit.proofs.Converted.{converted_found, converted_walks}
use Rattle.lk_check_unit.proofs.Returned.{known_there, returns_value}
use Rattle.lk_check_unit.proofs.returning.return_value.Goals as goal

pub code_if_typed-requires-clause-known : goal.code_if_typed-requires-clause-known
code_if_typed-requires-clause-known c =
    known_there c.args.checker.now c.judge.new.checker c.args.returned c.requires.sound c.in_ok-found.ensures.further.longer c.requires.known

pub returns-clause-grows : goal.returns-clause-grows
returns-clause-grows c = grows_further c.args.checker.now c.judge.new.checker c.in_ok-found.ensures.further

pub returns-clause-walks : goal.returns-clause-walks
returns-clause-walks c =
    let old = c.args.checker.now in
    let new = c.judge.new.checker in
    let e = c.args.e.now in
    let result = c.args.returned in
    let found = c.in_ok-found.found in
    let judged = c.in_ok-found.ensures.judged in
    let as_role = λ (table : Table). c.stands_for.ensures.role table ∙ ap role_of (c.listed-ty.ensures.value table) in
    returns_value old new result c.requires.sound c.requires.known e found c.code_if_typed.result c.in_ok-found.ensures.further.longer
    (converted_walks old new e result c.stands_for.result found as_role c.stands_for.ensures.in_size judged)
    (converted_found old new e result c.stands_for.result found as_role c.stands_for.ensures.in_size judged)
    c.code_if_typed.ensures

pub judge-requires-clause-role : goal.judge-requires-clause-role
judge-requires-clause-role c = c.stands_for.ensures.known c.args.checker.now.types (c.listed-ty.ensures.known c.args.checker.now.types c.requires.known)
