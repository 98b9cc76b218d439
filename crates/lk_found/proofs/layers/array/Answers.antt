use Rattle.std.proofs.Common.{refl, nat_eq}
use Rattle.std.specs.Prelude.{not}
use Rattle.lk_typed.specs.Meaning.{meaning}
use Rattle.lk_typed.specs.Ty.{Array}
use Rattle.lk_found.proofs.Forming.{made_known, part_of_made}
use Rattle.lk_found.proofs.layers.array.Goals as goal

pub returns-clause-known : goal.returns-clause-known
returns-clause-known c =
    let old = c.args.types.now in
    let new = c.array_of.new.types in
    let tree = Array (meaning old c.args.element) c.args.count in
    (made_known old new tree c.in_ok-ty.ty c.in_ok-ty.ensures.ok, part_of_made old new c.is_table-2.ensures tree (not (nat_eq c.args.count 0)) refl c.in_ok-ty.ty c.in_ok-ty.ensures.ok)
