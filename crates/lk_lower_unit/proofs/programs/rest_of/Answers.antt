use Rattle.std.proofs.Common.{ap, length, subst, sym}
use Rattle.lk_lower_parts.specs.Gathers.{HaveKnownTypes}
use Rattle.lk_types.specs.Table.{Table}
use Rattle.lk_lower_unit.proofs.programs.rest_of.Goals as goal

pub all_places-requires : goal.all_places-requires
all_places-requires c =
    subst (HaveKnownTypes (length c.in_ok-types.types.types)) (sym c.deref.ensures.value)
    (subst (λ n. HaveKnownTypes n c.args.roots.items) (sym (ap (λ (table : Table). length table.types) c.in_ok-types.ensures.1)) c.requires)
