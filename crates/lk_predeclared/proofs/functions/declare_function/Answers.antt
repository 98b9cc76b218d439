use Rattle.std.proofs.Common.{◌∷◌, [], ap, ◌∙◌}
use Rattle.lk_typed.specs.Env.{AFunction}
use Rattle.lk_typed.specs.Meaning.{meaning}
use Rattle.lk_typed.specs.declared.entity.Defines.TheVariants as defines
use Rattle.lk_typed.specs.declared.entity.Linkage.TheVariants as linkage
use Rattle.lk_typed.specs.declared.names.Meaning.TheVariants.{Function}
use Rattle.lk_check_expr.specs.Functions.{spelling}
use Rattle.lk_predeclared.specs.Scope.{code_declared, declared, function_declared}
use Rattle.lk_predeclared.proofs.Scopes.{adds_one, adds_on}
use Rattle.lk_predeclared.proofs.functions.declare_function.Goals as goal

pub returns-clause-adds : goal.returns-clause-adds
returns-clause-adds c =
    let old = c.args.types.now in
    let new = c.function_type.new.types in
    let f = c.args.function in
    let t = c.in_ok-t.t in
    let plain = c.in_ok-t.ensures.plain in
    adds_on old new c.args.names.now c.declare.new.names (function_declared f ∷ []) (code_declared c.name.result.now (Function t) linkage.External defines.Whole) c.declare.result c.declare.ensures
    (adds_one old new c.requires.table_is c.in_ok-t.ensures.grows.longer c.args.names.now c.declare.new.names (code_declared c.name.result.now (Function t) linkage.External defines.Whole) (function_declared f)
    plain.known
    (ap (λ name. declared name (AFunction (meaning new t)) linkage.External defines.Whole) c.name.ensures ∙ ap (λ tree. declared (spelling f) (AFunction tree) linkage.External defines.Whole) plain.means))
