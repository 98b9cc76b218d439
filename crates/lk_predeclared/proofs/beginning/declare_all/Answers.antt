use Rattle.lk_typed.specs.Library.{predeclared_types}
use Rattle.lk_predeclared.specs.Scope.{functions_declared}
use Rattle.lk_predeclared.proofs.Scopes.{adds_then}
use Rattle.lk_predeclared.proofs.beginning.declare_all.Goals as goal

pub returns : goal.returns
returns c = record {
  grows = c.in_ok-declare_functions.ensures.grows;
  adds = adds_then c.args.types.now c.args.types.now c.declare_functions.new.types c.args.names.now c.declare_words.new.names c.declare_functions.new.names predeclared_types functions_declared
      (c.in_ok-declare_words.ensures c.args.types.now c.requires) c.in_ok-declare_functions.ensures.adds;
}
