use Rattle.std.proofs.Common.{◌∙◌, sym, ap}
use Rattle.std.specs.Prelude.{is_some}
use Rattle.std.specs.Option.{option_copied, option_map}
use Rattle.lk_typed.specs.HolderRules.{enum_rules}
use Rattle.lk_typed.specs.Names.{tag_in}
use Rattle.lk_names.specs.InScope.{env_in}
use Rattle.lk_found.proofs.Forming.{none_is}
use Rattle.lk_found.proofs.Gathering.{enum_found, is_copied}
use Rattle.lk_found.proofs.tagged.enum_breach.Goals as goal

pub returns-then-is_none : goal.returns-then-is_none
returns-then-is_none c = λ table rest.
    let env = env_in table rest c.args.names.now in
    ap (enum_rules env c.args.name.now)
    (ap (λ o. option_map tag_in (option_copied o)) (sym (none_is c.look_up_tag.result c.if-is_none.ensures)) ∙ c.look_up_tag.ensures.env table rest)

pub returns : goal.returns
returns c = λ table rest.
    let env = env_in table rest c.args.names.now in
    c.in_ok-breach.ensures table rest ∙
    sym (enum_found env c.args.name.now _ (ap is_some (sym (c.look_up_tag.ensures.env table rest)) ∙ is_copied tag_in c.look_up_tag.result ∙ c.if-is_none.ensures))
