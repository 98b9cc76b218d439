use Rattle.std.proofs.Common.{◌∙◌, ap, subst}
use Rattle.lk_typed.specs.Env.{enter}
use Rattle.lk_names.specs.Growing.{IsMarkOf}
use Rattle.lk_checker.proofs.checker.Checker.enter_scope.Goals as goal

pub returns-clause-entered : goal.returns-clause-entered
returns-clause-entered c = λ env is. record {
  behind = record { scope = c.enter.ensures.enters c.args.self.now.types (enter env) ∙ ap enter is.scope; defined = is.defined; externs = is.externs };
  marks = subst (IsMarkOf c.enter.result) is.scope (c.enter.ensures.mark c.args.self.now.types env);
}
