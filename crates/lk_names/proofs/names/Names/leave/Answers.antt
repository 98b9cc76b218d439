use Rattle.lk_names.specs.InScope.{InScope}
use Rattle.lk_names.proofs.Environments.{scope_goes}
use Rattle.lk_names.proofs.KnownScopes.{left_known}
use Rattle.lk_names.proofs.names.Names.leave.Goals as goal

pub returns-clause-leaves : goal.returns-clause-leaves
returns-clause-leaves c =
    let old : InScope = record {
      declared = c.self.inside.declared;
      base = c.self.inside.base;
      tags = c.self.inside.tags;
      tag_base = c.self.inside.tag_base;
      structs = c.self.inside.structs;
    } in
    rw (c.truncate.ensures, c.truncate-2.ensures, ← c.self.view_is) (scope_goes c.args.mark old)

pub returns-clause-known : goal.returns-clause-known
returns-clause-known c table known =
    rw (c.truncate.ensures, c.truncate-2.ensures) (rw (← c.self.view_is) at (left_known table c.args.self.now known c.args.mark))
