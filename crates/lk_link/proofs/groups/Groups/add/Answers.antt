use Rattle.std.proofs.Common.{subst}
use Rattle.std.specs.List.{Any}
use Rattle.lk_link.specs.Sites.{StandsFor}
use Rattle.lk_link.proofs.Naming.{pushed_added, covered_added}
use Rattle.lk_link.proofs.groups.Groups.add.Goals as goal

pub returns : goal.returns
returns c = pushed_added c.args.self.now c.push.new.self c.args.name.now c.args.site c.in_ok-push.ensures

pub returns-then-is_covered : goal.returns-then-is_covered
returns-then-is_covered c =
    covered_added c.args.self.now c.args.name.now c.args.site (subst (Any (λ kept. StandsFor kept c.args.site)) c.group.ensures (c.is_covered.ensures.0 c.if-is_covered.true))
