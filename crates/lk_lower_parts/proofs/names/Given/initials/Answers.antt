use Rattle.std.proofs.Common.{arith, ◌<◌, ◌≤◌, length, subst, sym}
use Rattle.lk_lower_parts.proofs.Beginnings.{all_begun, source_more}
use Rattle.lk_lower_parts.specs.Givens.{AreInitials}
use Rattle.lk_lower_parts.proofs.names.Given.initials.Goals as goal

pub loop-source-preserved : goal.loop-source-preserved
loop-source-preserved c =
    let within : c.loop-source.source < length c.args.self.now.whole.now.sources = omega arith in
    source_more c.args.self.now c.loop-source.source c.loop-source.out.items c.push_objects.new.out.items within c.loop-source.invariant c.in_ok-push_objects.ensures

pub returns : goal.returns
returns c =
    let past : length c.args.self.now.whole.now.sources ≤ c.loop-source.source = omega arith in
    subst (AreInitials c.args.self.now) (sym c.new.ensures) (all_begun c.args.self.now c.loop-source.source c.loop-source.out.items past c.loop-source.invariant)
