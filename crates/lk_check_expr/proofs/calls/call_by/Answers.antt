use Rattle.std.proofs.Common.{◌∙◌, ◌++◌, Some, sym, ap}
use Rattle.std.proofs.lemmas.List.Elements.{All-head}
use Rattle.lk_types.specs.Table.{IsKnown}
use Rattle.lk_typed.specs.Calls as spec
use Rattle.lk_typed.specs.Codes.{least_code}
use Rattle.lk_typed.specs.Meaning.{meaning}
use Rattle.lk_typed.specs.Typing.{value_of_type}
use Rattle.lk_typed.proofs.Verdicts.{both_least, unless_verdict}
use Rattle.lk_check_expr.specs.Functions.{row_of}
use Rattle.lk_check_expr.specs.Signatures.{signature_in}
use Rattle.lk_check_expr.proofs.calls.call_by.Goals as goal

pub returns : goal.returns
returns c = λ env f xs role are.
    let table = c.args.types.now in
    let s = c.args.signature.now in
    let row = row_of c.args.called in
    let ps = spec.passes_by row (Some (signature_in table s)) in
    let first = spec.arguments_codes env s.dots ps xs in
    let second = spec.asked env.role (spec.asks_of row) xs in
    let passed = c.arguments_code-passed.ensures env ps xs (c.passes_by-passes.ensures.passed table c.requires.signature) are in
    let counted = sym (c.counts_bytes-counted.ensures ∙ ap spec.counts_bytes role) in
    let asked = c.asked_code-asked.ensures table env xs counted are ∙ ap (λ asks. least_code (spec.asked env.role asks xs)) c.asks_of-asks.ensures in
    unless_verdict table c.of_type-typed.result (first ++ second) (value_of_type (meaning table s.result)) c.unless.ensures
    (both_least first second passed asked c.lesser-code.ensures) (c.of_type-typed.ensures table (All-head (IsKnown table) s.result s.params.now c.requires.signature))
