use Rattle.std.proofs.Common.{◌∙◌, ◌&&◌, ap, sym}
use Rattle.lk_typed.specs.Redeclared.{is_given_here}
use Rattle.lk_names.specs.InScope.{env_in}
use Rattle.lk_names.proofs.names.Names.is_second.Goals as goal

pub returns-then-is_given : goal.returns-then-is_given
returns-then-is_given c table rest =
    c.is_given_here.ensures table rest ∙
    ap (λ b. b && is_given_here (env_in table rest c.args.self.now) c.args.new.now.name) (sym c.if-is_given.true ∙ c.is_given.ensures table)
