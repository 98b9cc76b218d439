use Rattle.std.proofs.Common.{◌↔◌, Contains, refl, subst}
use Rattle.std.proofs.lemmas.Result.{IfOk-weaker}
use Rattle.lk_facts.specs.LabelRules.{IsWithin}
use Rattle.lk_facts.specs.declared.root.Holder.TheVariants.{Root}
use Rattle.lk_types.specs.declared.node.NodeId.{NodeId}
use Rattle.lk_label.specs.Gathering.{PutsNames}
use Rattle.lk_label.proofs.NameLists.{origins_more}
use Rattle.lk_label.proofs.entries.put_origins.Goals as goal

pub returns : goal.returns
returns c =
    let program = c.args.points.now in
    let root = c.root.result.now in
    let nodes = c.in_ok-nodes.nodes in
    let within = subst (λ table. (n : NodeId) → Contains nodes n ↔ IsWithin table root.ty n) c.types.ensures c.in_ok-nodes.ensures in
    IfOk-weaker c.put_names.result _ _ (λ _ puts before. origins_more program c.args.r root.ty nodes c.args.found.now c.put_names.new.names (root, c.root.ensures.value, refl) within
    (subst (λ xs. PutsNames (Root c.args.r) c.args.found.now xs c.put_names.new.names) c.list.ensures.value puts) before) c.put_names.ensures
