use Rattle.std.proofs.Common.{◌∙◌, ap, drop}
use Rattle.std.specs.Option.{option_copied}
use Rattle.lk_typed.specs.Env.{is_name, latest}
use Rattle.lk_typed.specs.Names.{IsKnownName}
use Rattle.lk_names.proofs.Environments.{looked_up_here}
use Rattle.lk_names.proofs.KnownScopes.{found_known_here}
use Rattle.lk_names.proofs.names.Names.look_up_here.Goals as goal

pub returns-clause-env : goal.returns-clause-env
returns-clause-env c table rest =
    looked_up_here table rest c.args.self.now c.args.name.now (option_copied c.latest_behind.result) (c.latest_behind.ensures ∙ ap (λ s. latest (λ d. is_name d.name c.args.name.now) (drop s.base s.declared)) c.self.view_is)

pub returns-clause-known : goal.returns-clause-known
returns-clause-known c table known =
    found_known_here (IsKnownName table) (λ d. is_name d.name c.args.name.now) c.args.self.now.declared known.names c.args.self.now.base (option_copied c.latest_behind.result)
    (c.latest_behind.ensures ∙ ap (λ s. latest (λ d. is_name d.name c.args.name.now) (drop s.base s.declared)) c.self.view_is)
