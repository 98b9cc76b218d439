use Rattle.lk_names.specs.InScope.{InScope}
use Rattle.lk_names.proofs.Environments.{members_come}
use Rattle.lk_names.proofs.KnownScopes.{members_known}
use Rattle.lk_names.proofs.names.Names.set_members.Goals as goal

pub returns-clause-adds : goal.returns-clause-adds
returns-clause-adds c table rest =
    let old : InScope = record {
      declared = c.self.inside.declared;
      base = c.self.inside.base;
      tags = c.self.inside.tags;
      tag_base = c.self.inside.tag_base;
      structs = c.self.inside.structs;
    } in
    rw (c.set.ensures, ← c.self.view_is) (members_come table rest old c.args.s c.args.members)

pub returns-clause-known : goal.returns-clause-known
returns-clause-known c table known fields = rw c.set.ensures (rw (← c.self.view_is) at (members_known table c.args.self.now known c.args.s c.args.members fields))
