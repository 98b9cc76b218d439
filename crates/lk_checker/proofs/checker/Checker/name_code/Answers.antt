use Rattle.std.proofs.Common.{◌∙◌, sym, ap}
use Rattle.lk_typed.specs.Env.{Env}
use Rattle.lk_typed.specs.Names.{declared_in}
use Rattle.lk_typed.specs.Redeclared.{name_rules}
use Rattle.lk_typed.specs.declared.names.Declared.{Declared}
use Rattle.lk_names.specs.Uses.{breaches_told}
use Rattle.lk_checker.proofs.checker.Checker.name_code.Goals as goal

pub returns : goal.returns
returns c = λ env is.
    let types = c.args.self.now.types in
    ap (λ (d : Declared). breaches_told c.redeclaration_code-code.result d.name) (sym c.in_ok-declared.ensures) ∙ c.redeclaration_code-code.ensures env ∙
    ap (λ (e : Env). name_rules e (declared_in types c.in_ok-declared.declared)) is.scope ∙ ap (λ (d : Declared). name_rules env (declared_in types d)) c.in_ok-declared.ensures
