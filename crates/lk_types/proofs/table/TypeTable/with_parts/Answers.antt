use Rattle.std.proofs.Common.{arith, refl, sym, subst}
use Rattle.lk_types.specs.Building.{ArePartsOf}
use Rattle.lk_types.specs.Kept.{table_of}
use Rattle.lk_types.proofs.RestLemmas.{kept_longer, none_past}
use Rattle.lk_types.proofs.table.TypeTable.with_parts.Goals as goal

pub invariant_of-result : goal.invariant_of-result
invariant_of-result c =
    let inside = c.self.inside in
    let structs = inside.structs.items in
    kept_longer inside.types inside.classes structs inside.parts c.self.invariant structs c.new.result (omega arith) (λ s within. refl) c.self.invariant.few_structs (none_past structs)
    (subst (λ parts. ArePartsOf (table_of inside.types structs inside.parts) parts) (sym c.new.ensures)
    (subst (λ table. ArePartsOf table c.args.parts.items) (sym c.self.view_is) c.requires))
