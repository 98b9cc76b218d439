use Rattle.std.proofs.Common.{ap, ◌≡◌, ◌≤◌, length, rules}
use Rattle.std.proofs.lemmas.Option.{slice_get_past}
use Rattle.std.specs.Prelude.{unwrap_or}
use Rattle.lk_lower_parts.proofs.Adding.{no_more}
use Rattle.lk_lower_parts.specs.Found.{form_in}
use Rattle.lk_types.specs.declared.c_type.CType.TheVariants.{Void}
use Rattle.lk_lower_parts.proofs.owned.Finding.push_chosen.Goals as goal

pub returns-then-e-count : goal.returns-then-e-count
returns-then-e-count c =
    let types = c.args.self.now.table.now.types in
    let past : length types ≤ c.args.e.now.ty = search rules in
    let none : form_in c.args.self.now c.args.e.now.ty ≡ Void = ap (λ o. unwrap_or o Void) (slice_get_past types c.args.e.now.ty past) in
    rw none (no_more c.args.out.now.items)
