use Rattle.std.proofs.Common.{◌∙◌, [], ◌∷◌, sym, ap}
use Rattle.std.specs.Option.{option_copied}
use Rattle.lk_typed.specs.Faults.{breach_of}
use Rattle.lk_typed.specs.HolderRules.{optional_tag_rules}
use Rattle.lk_names.specs.InScope.{env_in}
use Rattle.lk_names.specs.Uses.{breaches_told, rules_use}
use Rattle.lk_found.proofs.tagged.tag_breach.Goals as goal

pub returns-in-None : goal.returns-in-None
returns-in-None c = λ table rest.
    let env = env_in table rest c.args.names.now in
    ap (λ o. breaches_told o c.in-Some.name.now) (sym c.in-None.is) ∙ c.tag_code.ensures table rest ∙
    ap (optional_tag_rules env (rules_use c.args.wanted)) (sym (ap option_copied c.in-Some.is))

pub returns-in_ok-name-in-Some-tag_code : goal.returns-in_ok-name-in-Some-tag_code
returns-in_ok-name-in-Some-tag_code c = λ table rest.
    let env = env_in table rest c.args.names.now in
    ap (λ name. breach_of c.in-Some-tag_code.code name ∷ []) c.in_ok-name-in-Some-tag_code.ensures ∙ ap (λ o. breaches_told o c.in-Some.name.now) (sym c.in-Some-tag_code.is) ∙
    c.tag_code.ensures table rest ∙ ap (optional_tag_rules env (rules_use c.args.wanted)) (sym (ap option_copied c.in-Some.is))
