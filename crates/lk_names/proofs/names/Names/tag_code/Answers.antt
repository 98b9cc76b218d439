use Rattle.std.proofs.Common.{◌∙◌, sym}
use Rattle.std.specs.Option.{option_copied, option_map}
use Rattle.lk_typed.specs.Names.{tag_in}
use Rattle.lk_names.specs.InScope.{env_in}
use Rattle.lk_names.specs.Uses.{rules_use}
use Rattle.lk_names.proofs.TellingRules.{tag_admitted, tag_refused}
use Rattle.lk_names.proofs.names.Names.tag_code.Goals as goal

pub returns-then-may_use : goal.returns-then-may_use
returns-then-may_use c table rest =
    tag_admitted (env_in table rest c.args.self.now) (rules_use c.args.wanted) c.args.name.now (option_map tag_in (option_copied c.tag_meant.result))
    (c.tag_meant.ensures.value table rest) (sym (c.may_use.ensures table rest) ∙ c.if-may_use.true)

pub returns-else-may_use : goal.returns-else-may_use
returns-else-may_use c table rest =
    tag_refused (env_in table rest c.args.self.now) (rules_use c.args.wanted) c.args.name.now (option_map tag_in (option_copied c.tag_meant.result))
    (c.tag_meant.ensures.value table rest) (sym (c.may_use.ensures table rest) ∙ c.if-may_use.false)
