use Rattle.std.proofs.Common.{◌∙◌, sym, ap}
use Rattle.std.specs.Option.{option_copied}
use Rattle.lk_typed.specs.Told.{struct_meant, tag_found}
use Rattle.lk_names.specs.InScope.{env_in}
use Rattle.lk_names.specs.Uses.{rules_use}
use Rattle.lk_found.proofs.tagged.known_struct.Goals as goal

pub returns-in-Some-clause-value : goal.returns-in-Some-clause-value
returns-in-Some-clause-value c = λ table rest.
    let env = env_in table rest c.args.names.now in
    let use_of = rules_use c.args.wanted in
    c.struct_meant.ensures.value ∙ ap struct_meant (c.tag_meant.ensures.value table rest) ∙
    ap (λ tag. struct_meant (tag_found env use_of tag)) (sym (ap option_copied c.in-Some.is))

pub returns-in-Some-clause-known : goal.returns-in-Some-clause-known
returns-in-Some-clause-known c = λ table scope. c.struct_meant.ensures.known _ (c.tag_meant.ensures.known table scope)
