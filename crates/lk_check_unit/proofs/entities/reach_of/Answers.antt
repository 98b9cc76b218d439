use Rattle.std.proofs.Common.{◌≡◌, ◌∙◌, ap, subst}
use Rattle.std.specs.Option.{option_map}
use Rattle.lk_typed.specs.DeclarationRules.{linkage_of}
use Rattle.lk_typed.specs.Env.{Declared, Env, look_up}
use Rattle.lk_check_decl.specs.Twins.{scope_of}
use Rattle.lk_check_unit.proofs.entities.reach_of.Goals as goal

pub returns : goal.returns
returns c = λ env is_in.
    c.linkage_of.ensures env c.args.name.now
    (subst (λ (e : Env). option_map (λ (d : Declared). d.linkage) (look_up e c.args.name.now) ≡ c.linkage_before-before.result) is_in.scope (c.linkage_before-before.ensures c.args.checker.now.types env)) ∙
    ap (λ b. linkage_of env (scope_of c.args.scope) c.args.words.now b c.args.name.now) c.is_function_type-is_function.ensures
