use Rattle.std.proofs.Common.{ap, get_or}
use Rattle.std.specs.Option.{option_map}
use Rattle.std.proofs.lemmas.Option.{slice_get-get_or, slice_get_past}
use Rattle.lk_types.specs.Table.{fields_of, type_at}
use Rattle.lk_types.specs.Walks.{field}
use Rattle.lk_types.proofs.NodeLemmas.{way_to_field}
use Rattle.lk_types.proofs.table.TypeTable.way_to_field.Goals as goal

pub returns-in-Some : goal.returns-in-Some
returns-in-Some c =
    let now = c.args.self.now in
    let ts = fields_of now (type_at now c.args.t) in
    let k = c.args.number in
    let at = slice_get-get_or ts k 0 c.in-Some.ensures.field in
    record { way = (get_or ts k 0, ap (option_map (field k)) at, way_to_field now c.is_table.ensures c.args.t c.requires k (get_or ts k 0) c.in-Some.count at c.in-Some.ensures.place_is) }

pub returns-in-None : goal.returns-in-None
returns-in-None c =
    let now = c.args.self.now in
    record { way = ap (option_map (field c.args.number)) (slice_get_past (fields_of now (type_at now c.args.t)) c.args.number c.in-None.ensures) }
