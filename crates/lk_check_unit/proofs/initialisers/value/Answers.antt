use Rattle.std.proofs.Common.{◌∙◌, sym, ap, subst}
use Rattle.std.specs.Prelude.{◌&&◌, is_some}
use Rattle.lk_types.specs.Table.{Table}
use Rattle.lk_check_unit.specs.Converting.{role_of}
use Rattle.lk_check_unit.specs.Initialising.{WalksExpr}
use Rattle.lk_check_unit.proofs.Asked.{grows_further}
use Rattle.lk_check_unit.proofs.Converted.{converted_found, converted_walks}
use Rattle.lk_check_unit.proofs.Entries.{target_known}
use Rattle.lk_check_unit.proofs.Initialised.{value_walked}
use Rattle.lk_check_unit.proofs.Staying.{grows_then, grows_told}
use Rattle.lk_check_unit.proofs.initialisers.value.Goals as goal

pub judge-requires-clause-role : goal.judge-requires-clause-role
judge-requires-clause-role c =
    c.stands_for.ensures.known c.args.checker.now.types (c.listed-ty.ensures.known c.args.checker.now.types (c.target_type-target_ty.ensures.known c.args.checker.now.types c.requires.target))

pub found_code-code-requires-clause-target : goal.found_code-code-requires-clause-target
found_code-code-requires-clause-target c = target_known c.args.checker.now c.judge.new.checker c.requires.sound c.in_ok-found.ensures.further.longer c.args.target.now c.requires.target

pub returns-clause-grows : goal.returns-clause-grows
returns-clause-grows c =
    grows_then c.args.checker.now c.judge.new.checker c.keep.new.self (grows_further c.args.checker.now c.judge.new.checker c.in_ok-found.ensures.further)
    (grows_told c.judge.new.checker c.keep.new.self c.at_expression.result _ c.in_ok-found.ensures.further.sound c.in_ok-keep.ensures)

pub returns-clause-walks : goal.returns-clause-walks
returns-clause-walks c =
    let old = c.args.checker.now in
    let mid = c.judge.new.checker in
    let e = c.args.e.now in
    let t = c.target_type-target_ty.result in
    let found = c.in_ok-found.found in
    let judged = c.in_ok-found.ensures.judged in
    let as_role = λ (table : Table). c.stands_for.ensures.role table ∙ ap role_of (c.listed-ty.ensures.value table) in
    subst (WalksExpr c.args.target.now e old c.keep.new.self)
    (sym (c.both.ensures ∙ (ap (λ b. b && c.is_fit.result) c.is_some.ensures ∙ ap (λ b. is_some found.typing && b) c.is_fit.ensures)))
    (value_walked c.args.target.now c.in_ok-text.text t e old mid c.keep.new.self c.at_expression.result found c.found_code-code.result c.requires.sound c.requires.target c.in_ok-found.ensures.further.longer
    c.requires.no_word c.in_ok-text.ensures c.target_type-target_ty.ensures.value (converted_walks old mid e t c.stands_for.result found as_role c.stands_for.ensures.in_size judged)
    (converted_found old mid e t c.stands_for.result found as_role c.stands_for.ensures.in_size judged) c.found_code-code.ensures c.at_expression.ensures.spot c.at_expression.ensures.ordinal c.in_ok-keep.ensures)
