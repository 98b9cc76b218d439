use Rattle.std.proofs.Common.{subst}
use Rattle.std.proofs.lemmas.Result.{IfOk-weaker}
use Rattle.lk_label.specs.Naming.{AreKept}
use Rattle.lk_label.proofs.NodeLists.{named}
use Rattle.lk_label.proofs.named.named_nodes.Goals as goal

pub returns : goal.returns
returns c =
    IfOk-weaker c.kept.result _ _ (λ kept are. named c.args.types.now c.args.t c.args.whole c.in_ok-walk.walk c.in_ok-places.places kept.items c.in_ok-walk.ensures c.in_ok-places.ensures
    (subst (λ xs. AreKept xs c.in_ok-places.places kept.items) c.list.ensures.value are)) c.kept.ensures
