use Rattle.std.proofs.Common.{◌∙◌, sym, subst, Some, All, IfSome}
use Rattle.lk_types.specs.Building.{IsPassed}
use Rattle.lk_typed.specs.DeclaratorRules.{function_rules}
use Rattle.lk_typed.specs.Meaning.{meaning}
use Rattle.lk_found.specs.Shapes.{AFunction, params_in}
use Rattle.lk_found.proofs.Forming.{none_is, nothing_made_by, returned_passed, some_code, all_cons}
use Rattle.lk_found.proofs.layers.function.Goals as goal

pub returns-then-is_some-clause-made : goal.returns-then-is_some-clause-made
returns-then-is_some-clause-made c = λ span same.
    let table = c.args.types.now in
    let tree = Some (meaning table c.args.returned) in
    nothing_made_by table table span (AFunction (params_in table c.args.params) c.args.dots) tree c.nothing.result (c.nothing.ensures.code ∙ c.function_code-code.ensures)
    (some_code (function_rules tree) c.function_code-code.result c.function_code-code.ensures (sym c.is_some.ensures ∙ c.if-is_some.true) _) c.nothing.ensures.ty c.nothing.ensures.large

pub function_of-requires : goal.function_of-requires
function_of-requires c =
    let table = c.args.types.now in
    let none = sym c.function_code-code.ensures ∙ none_is c.function_code-code.result (sym c.is_some.ensures ∙ c.if-is_some.false) in
    all_cons (IsPassed table) c.args.returned c.in-Some.params (returned_passed table c.is_table.ensures c.args.returned c.requires.known none)
    (subst (λ params. IfSome params (All (IsPassed table))) c.in-Some.is c.requires.passed)
