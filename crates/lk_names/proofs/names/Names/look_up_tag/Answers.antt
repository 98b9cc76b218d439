use Rattle.std.proofs.Common.{◌∙◌, ap, length}
use Rattle.std.specs.Option.{option_copied}
use Rattle.lk_typed.specs.Env.{is_name, latest}
use Rattle.lk_names.specs.InScope.{HasStruct}
use Rattle.lk_names.proofs.Environments.{tag_looked_up}
use Rattle.lk_names.proofs.KnownScopes.{found_known}
use Rattle.lk_names.proofs.names.Names.look_up_tag.Goals as goal

pub returns-clause-env : goal.returns-clause-env
returns-clause-env c table rest =
    tag_looked_up table rest c.args.self.now c.args.name.now (option_copied c.latest_of.result) (c.latest_of.ensures ∙ ap (λ s. latest (λ tag. is_name tag.name c.args.name.now) s.tags) c.self.view_is)

pub returns-clause-known : goal.returns-clause-known
returns-clause-known c table known =
    found_known (λ tag. HasStruct (length c.args.self.now.structs) tag.meaning) (λ tag. is_name tag.name c.args.name.now) c.args.self.now.tags known.tags (option_copied c.latest_of.result)
    (c.latest_of.ensures ∙ ap (λ s. latest (λ tag. is_name tag.name c.args.name.now) s.tags) c.self.view_is)
