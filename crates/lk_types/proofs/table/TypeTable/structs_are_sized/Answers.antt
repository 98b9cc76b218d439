use Rattle.std.proofs.Common.{subst}
use Rattle.lk_types.specs.Building.{HasSizedStructs}
use Rattle.lk_types.proofs.StructLemmas.{sized_structs}
use Rattle.lk_types.proofs.table.TypeTable.structs_are_sized.Goals as goal

pub returns : goal.returns
returns c =
    let inside = c.self.inside in
    subst HasSizedStructs c.self.view_is (sized_structs inside.types inside.classes inside.structs.items inside.parts c.self.invariant)
