use Rattle.lk_link.specs.Sites.{AreGroups}
use Rattle.lk_link.proofs.Naming.{IsNamedBelow}
use Rattle.lk_link.proofs.groups.Groups.of.Given as goal

abbrev pub invariant-loop-site : goal.invariant-loop-site
invariant-loop-site l = AreGroups (IsNamedBelow l.units l.sites l.site-index) l.groups
