use Rattle.std.proofs.Common.{◌∙◌, sym, ap}
use Rattle.std.specs.Option.{option_copied}
use Rattle.lk_typed.specs.Redeclared.{may_use}
use Rattle.lk_typed.specs.Told.{tag_found}
use Rattle.lk_names.specs.InScope.{env_in}
use Rattle.lk_names.specs.Uses.{rules_use}
use Rattle.lk_found.proofs.tagged.admits.Goals as goal

pub returns-in-Some : goal.returns-in-Some
returns-in-Some c = λ table rest.
    let env = env_in table rest c.args.names.now in
    let use_of = rules_use c.args.wanted in
    c.may_use.ensures table rest ∙ ap (λ found. may_use env found use_of) (c.tag_meant.ensures.value table rest) ∙
    ap (λ tag. may_use env (tag_found env use_of tag) use_of) (sym (ap option_copied c.in-Some.is))
