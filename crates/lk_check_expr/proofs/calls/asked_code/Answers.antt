use Rattle.std.proofs.Common.{◌∙◌, sym, ap}
use Rattle.lk_typed.specs.Calls as spec
use Rattle.lk_typed.specs.Codes.{least_code}
use Rattle.lk_check_expr.specs.Functions.{asked_by}
use Rattle.lk_check_expr.proofs.calls.asked_code.Goals as goal

pub returns-in-Format : goal.returns-in-Format
returns-in-Format c = λ table env xs by are. c.format_code.ensures table env xs are ∙ ap (λ asks. least_code (spec.asked env.role (asked_by asks) xs)) (sym c.in-Format.is)

pub returns-in-Size : goal.returns-in-Size
returns-in-Size c = λ table env xs by are. c.size_code.ensures table env xs by are ∙ ap (λ asks. least_code (spec.asked env.role (asked_by asks) xs)) (sym c.in-Size.is)

pub returns-in-ElementSize : goal.returns-in-ElementSize
returns-in-ElementSize c = λ table env xs by are. c.element_code.ensures table env xs are ∙ ap (λ asks. least_code (spec.asked env.role (asked_by asks) xs)) (sym c.in-ElementSize.is)
