use Rattle.std.proofs.Common.{◌∙◌, sym}
use Rattle.lk_names.specs.InScope.{env_in}
use Rattle.lk_names.proofs.names.Names.tag_meant.Goals as goal

pub returns-then-speaks_of_own_scope-clause-value : goal.returns-then-speaks_of_own_scope-clause-value
returns-then-speaks_of_own_scope-clause-value c table rest =
    c.look_up_tag_here.ensures.env table rest ∙
    sym (rw c.if-speaks_of_own_scope.true at (c.speaks_of_own_scope.ensures (env_in table rest c.args.self.now) c.args.name.now))

pub returns-else-speaks_of_own_scope-clause-value : goal.returns-else-speaks_of_own_scope-clause-value
returns-else-speaks_of_own_scope-clause-value c table rest =
    c.look_up_tag.ensures.env table rest ∙
    sym (rw c.if-speaks_of_own_scope.false at (c.speaks_of_own_scope.ensures (env_in table rest c.args.self.now) c.args.name.now))
