use Rattle.lk_names.specs.InScope.{InScope}
use Rattle.lk_names.proofs.Environments.{scope_given_back, scope_goes}
use Rattle.lk_names.proofs.KnownScopes.{innermost_known, left_known}
use Rattle.lk_names.proofs.names.Names.leave_with.Goals as goal

pub returns-clause-leaves : goal.returns-clause-leaves
returns-clause-leaves c =
    let old : InScope = record {
      declared = c.self.inside.declared;
      base = c.self.inside.base;
      tags = c.self.inside.tags;
      tag_base = c.self.inside.tag_base;
      structs = c.self.inside.structs;
    } in
    rw (c.split_into.ensures.rest, c.split_into-2.ensures.rest, ← c.self.view_is) (scope_goes c.args.mark old)

pub returns-clause-known : goal.returns-clause-known
returns-clause-known c table known =
    rw (c.split_into.ensures.rest, c.split_into-2.ensures.rest) (rw (← c.self.view_is) at (left_known table c.args.self.now known c.args.mark))

pub returns-clause-adds : goal.returns-clause-adds
returns-clause-adds c =
    let old : InScope = record {
      declared = c.self.inside.declared;
      base = c.self.inside.base;
      tags = c.self.inside.tags;
      tag_base = c.self.inside.tag_base;
      structs = c.self.inside.structs;
    } in
    rw (c.split_into.ensures.taken, c.split_into-2.ensures.taken, ← c.self.view_is) (scope_given_back old)

pub returns-clause-known_scope : goal.returns-clause-known_scope
returns-clause-known_scope c =
    let old : InScope = record {
      declared = c.self.inside.declared;
      base = c.self.inside.base;
      tags = c.self.inside.tags;
      tag_base = c.self.inside.tag_base;
      structs = c.self.inside.structs;
    } in
    rw (c.split_into.ensures.taken, c.split_into-2.ensures.taken, ← c.self.view_is) (λ table known. innermost_known table old known)
