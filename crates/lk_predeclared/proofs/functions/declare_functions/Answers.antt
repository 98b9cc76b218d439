use Rattle.std.proofs.Common.{◌∙◌, ◌∷◌, [], ap, subst, take, map}
use Rattle.std.proofs.lemmas.List.{take_all}
use Rattle.std.proofs.lemmas.Option.{slice_get-get_or}
use Rattle.std.specs.Prelude.{get_or}
use Rattle.lk_check_expr.specs.Functions.{functions}
use Rattle.lk_check_expr.specs.declared.library.LibraryFunction.TheVariants.{Create}
use Rattle.lk_predeclared.specs.Scope.{AddsNames, function_declared}
use Rattle.lk_predeclared.proofs.FirstPlain.{grows_then}
use Rattle.lk_predeclared.proofs.Scopes.{adds_then, functions_are, one_more}
use Rattle.lk_predeclared.proofs.functions.declare_functions.Goals as goal

pub loop-function-preserved : goal.loop-function-preserved
loop-function-preserved c =
    let old = c.args.types.now in
    let now = c.loop-function.types in
    let new = c.declare_function.new.types in
    let k = c.loop-function.function-index in
    let f = get_or functions k Create in
    let loop = c.loop-function.invariant in
    record {
      ready = c.in_ok-declare_function.ensures.grows.ready;
      grows = grows_then old now new loop.grows c.in_ok-declare_function.ensures.grows;
      adds =
          subst (AddsNames old c.args.names.now new c.declare_function.new.names) (one_more function_declared functions k f (slice_get-get_or functions k Create c.loop-function-test.true))
          (adds_then old now new c.args.names.now c.loop-function.names c.declare_function.new.names (map function_declared (take k functions)) (function_declared f ∷ []) loop.adds
          c.in_ok-declare_function.ensures.adds);
    }

pub returns-clause-adds : goal.returns-clause-adds
returns-clause-adds c =
    subst (AddsNames c.args.types.now c.args.names.now c.loop-function.types c.loop-function.names)
    (ap (map function_declared) (take_all c.loop-function.function-index functions c.loop-function-test.false) ∙ functions_are) c.loop-function.invariant.adds
