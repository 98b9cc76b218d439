use Rattle.std.proofs.Common.{◌∙◌, Some, ap, sym}
use Rattle.lk_types.specs.Nodes.{target_of}
use Rattle.lk_types.proofs.NodeLemmas.{way_to_target, target_plain, type_is}
use Rattle.lk_types.proofs.table.TypeTable.way_to_target.Goals as goal

pub returns-else-has_tag : goal.returns-else-has_tag
returns-else-has_tag c =
    let at = c.get.ensures.value ∙ ap Some c.in-Pointer.is in
    let plain = sym c.has_tag.ensures ∙ c.if-has_tag.false in
    record { way = (c.in-Pointer.target, ap (target_of c.args.self.now) (type_is c.args.self.now c.args.t _ at) ∙ ap Some (target_plain c.args.self.now c.get.ensures.table c.in-Pointer.target plain), way_to_target c.args.self.now c.get.ensures.table c.args.t c.in-Pointer.target at plain) }
