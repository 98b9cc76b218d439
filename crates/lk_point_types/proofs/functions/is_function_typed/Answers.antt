use Rattle.std.proofs.Common.{◌∙◌, subst, sym}
use Rattle.std.specs.Prelude.{All}
use Rattle.std.proofs.lemmas.Bool.{false≢true}
use Rattle.std.proofs.lemmas.List.Elements.{All-tail}
use Rattle.lk_facts.specs.Typed.{IsFunctionType}
use Rattle.lk_types.specs.Equal.{IsAlike}
use Rattle.lk_types.specs.Table.{HasKnown, IsKnown}
use Rattle.lk_point_types.specs.Parameters.{AreHeld}
use Rattle.lk_point_types.proofs.WholeLemmas.{function_held, function_result, function_typed}
use Rattle.lk_point_types.proofs.functions.is_function_typed.Goals as goal

pub are_held-requires-clause-types : goal.are_held-requires-clause-types
are_held-requires-clause-types c =
    let types = c.args.points.now.types in
    let is = c.in-Function in
    subst (All (IsKnown types)) (sym c.list.ensures) (All-tail (IsKnown types) is.result is.params (subst (HasKnown types) is.is c.function_type.ensures.known))

pub returns-then-are_alike : goal.returns-then-are_alike
returns-then-are_alike c =
    let program = c.args.points.now in
    let f = c.args.f in
    let is = c.in-Function in
    let of = subst (IsFunctionType program f) is.is c.function_type.ensures.form in (
      (λ held.
          function_typed program f is.result c.result.result is.params is.dots c.parameters.result.now of c.result.ensures.value
          (subst (λ table. IsAlike table.types c.result.result is.result) c.types.ensures (c.are_alike.ensures.0 c.if-are_alike.true))
          c.parameters.ensures.value (subst (AreHeld program f c.parameters.result.now) c.list.ensures (c.are_held.ensures.0 held))),
      (λ typed.
          c.are_held.ensures.1
          (subst (AreHeld program f c.parameters.result.now) (sym c.list.ensures)
          (function_held program f is.result is.params is.dots c.parameters.result.now of c.parameters.ensures.value typed))),
    )

pub returns-else-are_alike : goal.returns-else-are_alike
returns-else-are_alike c =
    let program = c.args.points.now in
    let f = c.args.f in
    let is = c.in-Function in
    let of = subst (IsFunctionType program f) is.is c.function_type.ensures.form in (
      (λ yes_. absurd (false≢true (sym c.if-are_alike.false ∙ yes_))),
      (λ typed.
          absurd (false≢true (sym c.if-are_alike.false ∙
          c.are_alike.ensures.1 (subst (λ table. IsAlike table.types c.result.result is.result) (sym c.types.ensures)
          (function_result program f is.result c.result.result is.params is.dots of c.result.ensures.value typed))))),
    )
