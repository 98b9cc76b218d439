use Rattle.std.proofs.Common.{sym, subst}
use Rattle.lk_link.specs.Tags.{AreFirsts}
use Rattle.lk_link.proofs.Resolving.{no_firsts}
use Rattle.lk_link.proofs.tags.Tags.of_sources.Goals as goal

pub loop-source-init : goal.loop-source-init
loop-source-init c = subst (λ entries. AreFirsts c.args.units.now entries 0 0) (sym c.new-tags.ensures) (no_firsts c.args.units.now)
