use Rattle.std.proofs.Common.{◌∙◌, sym, ap}
use Rattle.std.proofs.lemmas.Result.{on_ok_weaker}
use Rattle.lk_typed.specs.Env.{Env}
use Rattle.lk_typed.specs.Names.{declared_in}
use Rattle.lk_typed.specs.Redeclared.{name_rules}
use Rattle.lk_names.specs.Uses.{breaches_told}
use Rattle.lk_check_unit.proofs.Naming.{again_kept, same_told}
use Rattle.lk_check_unit.proofs.declared.keep_redeclared.Goals as goal

pub returns-clause-kept : goal.returns-clause-kept
returns-clause-kept c =
    on_ok_weaker c.keep_named.result
    (λ tells env is_in.
    again_kept c.args.checker.now c.keep_named.new.self c.args.named.now.at c.args.named.now.name.now c.redeclaration_code-again.result (name_rules env (declared_in c.args.checker.now.types c.args.declared.now))
    (ap (breaches_told c.redeclaration_code-again.result) (sym c.requires.name) ∙
    (c.redeclaration_code-again.ensures env ∙ ap (λ (e : Env). name_rules e (declared_in c.args.checker.now.types c.args.declared.now)) is_in.scope))
    tells)
    c.keep_named.ensures

pub returns-clause-same : goal.returns-clause-same
returns-clause-same c = on_ok_weaker c.keep_named.result (λ tells. same_told c.args.checker.now c.keep_named.new.self c.args.named.now.at _ tells) c.keep_named.ensures
