use Rattle.std.proofs.Common.{subst}
use Rattle.std.proofs.lemmas.Option.{none-some}
use Rattle.std.proofs.lemmas.Result.{IfOk-weaker}
use Rattle.lk_label.specs.Gathering.{PutsNames}
use Rattle.lk_label.specs.Naming.{AreNamed}
use Rattle.lk_label.proofs.NameLists.{labels_put}
use Rattle.lk_label.proofs.gather.put_labels.Goals as goal

pub returns-in_ok-nodes-in-Some : goal.returns-in_ok-nodes-in-Some
returns-in_ok-nodes-in-Some c =
    let program = c.args.points.now in
    let t = c.in-Some.t in
    let nodes = c.in_ok-nodes-in-Some.nodes.items in
    let named = subst (λ whole. AreNamed program.types t whole nodes) c.is_root.ensures (subst (λ table. AreNamed table t c.is_root.result nodes) c.types.ensures c.in_ok-nodes-in-Some.ensures) in
    IfOk-weaker c.put_names.result _ _ (λ _ puts. labels_put program c.args.holder t nodes c.args.names.now c.put_names.new.names c.in-Some.ensures.exact named
    (subst (λ xs. PutsNames c.args.holder c.args.names.now xs c.put_names.new.names) c.deref.ensures.value puts)) c.put_names.ensures

pub returns-in-None : goal.returns-in-None
returns-in-None c = let holder = c.requires in absurd (none-some holder.0 ((c.in-None.ensures.exact holder.0).0 holder.1))
