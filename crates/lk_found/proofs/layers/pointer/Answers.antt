use Rattle.std.proofs.Common.{true, refl}
use Rattle.lk_typed.specs.Meaning.{meaning}
use Rattle.lk_typed.specs.Ty.{Pointer}
use Rattle.lk_found.proofs.Forming.{made_known, part_of_made}
use Rattle.lk_found.proofs.layers.pointer.Goals as goal

pub returns-clause-known : goal.returns-clause-known
returns-clause-known c =
    let old = c.args.types.now in
    let new = c.pointer_to.new.types in
    let tree = Pointer (meaning old c.args.target) in
    (made_known old new tree c.in_ok-ty.ty c.in_ok-ty.ensures.ok, part_of_made old new c.is_table-2.ensures tree true refl c.in_ok-ty.ty c.in_ok-ty.ensures.ok)
