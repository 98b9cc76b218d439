use Rattle.std.proofs.Common.{◌∙◌, ◌++◌, ap}
use Rattle.std.specs.Prelude.{◌&&◌, ◌||◌, not}
use Rattle.lk_base.specs.declared.code.Code.TheVariants.{CallsMain, Mismatch, UnknownExternal}
use Rattle.lk_typed.specs.Codes.{least_code}
use Rattle.lk_typed.specs.Meaning.{meaning}
use Rattle.lk_typed.specs.Ty.{function_of, holds_of}
use Rattle.lk_typed.specs.Typing.{if_so}
use Rattle.lk_typed.specs.Words as spec
use Rattle.lk_typed.proofs.Verdicts.{both_least}
use Rattle.lk_check_expr.proofs.words.function_code.Goals as goal

pub returns : goal.returns
returns c = λ env used.
    let table = c.args.types.now in
    let name = c.args.name.now in
    let outside = (spec.is_library name || spec.is_extern env name) && not (spec.may_be_library env.role) in
    let other = spec.is_extern env name && not (holds_of (function_of (meaning table c.args.t)) spec.is_extern_result) in
    let main = c.code_if-main.ensures ∙ ap (λ b. least_code (if_so b CallsMain)) c.is_main-of_main.ensures in
    let misplaced = c.code_if-misplaced.ensures ∙ ap (λ b. least_code (if_so b Mismatch)) (c.is_misplaced-out_of_place.ensures table env used) in
    let unknown = c.code_if-unknown.ensures ∙ ap (λ b. least_code (if_so b UnknownExternal)) (c.is_unknown-of_unknown.ensures table env used) in
    both_least (if_so (spec.is_main name) CallsMain ++ if_so outside Mismatch) (if_so other UnknownExternal)
    (both_least (if_so (spec.is_main name) CallsMain) (if_so outside Mismatch) main misplaced c.lesser-first.ensures) unknown c.lesser.ensures
