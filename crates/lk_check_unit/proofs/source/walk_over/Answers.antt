use Rattle.std.proofs.Common.{[], subst}
use Rattle.lk_check_unit.specs.Later.{AsksAll}
use Rattle.lk_check_unit.specs.Sources.{WalksExternals}
use Rattle.lk_check_unit.proofs.source.walk_over.Goals as goal

pub returns : goal.returns
returns c = record {
  between = c.externals.new.checker;
  pending = c.externals.new.pending;
  grows = c.in_ok-externals.ensures.grows;
  walks = subst (λ ps. WalksExternals c.args.checker.now c.externals.new.checker c.args.list.now ps c.externals.new.pending) c.nothing_pending-pending.ensures c.in_ok-externals.ensures.walks;
  asks = subst (AsksAll c.externals.new.checker c.ask_pending.new.checker) c.list.ensures c.in_ok-ask_pending.ensures.asks;
  same = c.in_ok-ask_pending.ensures.same;
}
