use Rattle.std.proofs.Common.{◌∙◌, Some, ap}
use Rattle.lk_types.specs.Nodes.{element_of}
use Rattle.lk_types.proofs.NodeLemmas.{way_to_element, type_is}
use Rattle.lk_types.proofs.table.TypeTable.way_to_element.Goals as goal

pub returns-in-Array : goal.returns-in-Array
returns-in-Array c =
    let at = c.get.ensures.value ∙ ap Some c.in-Array.is in
    record { way = (c.in-Array.field-0, ap element_of (type_is c.args.self.now c.args.t _ at), way_to_element c.args.self.now c.get.ensures.table c.args.t c.in-Array.field-0 c.in-Array.field-1 at) }
