use Rattle.std.proofs.Common.{[], sym, subst}
use Rattle.lk_typed.specs.Meaning.{meaning}
use Rattle.lk_elab_init.specs.Cells.{cells_given}
use Rattle.lk_elab_init.specs.Places.{ArePut}
use Rattle.lk_elab_init.specs.Settled.{fields_listed}
use Rattle.lk_elaborate.specs.LocalParts.{GivesLocalParts}
use Rattle.lk_elaborate.proofs.LocalInits.{local_init_is}
use Rattle.lk_elaborate.proofs.local_inits.local_init.Goals as goal

pub returns-clause-init : goal.returns-clause-init
returns-clause-init c externs unit told env object node type tables leads =
    let old = c.args.walk.now in
    let new = c.local_parts.new.walk in
    let ty = c.args.ty in
    let givens = c.in_ok-givens.givens.items in
    let listed = fields_listed old.types in
    let put = subst (λ gs. ArePut listed (cells_given gs) [] (meaning old.types ty) c.new-2.result) c.as_slice.ensures.value
    (subst (ArePut listed (cells_given c.as_slice.result.now) [] (meaning old.types ty)) (sym c.new-2.ensures) c.in_ok-absent.ensures) in
    let made = subst (λ gs. GivesLocalParts old new gs c.new.result) c.as_slice-2.ensures.value
    (subst (GivesLocalParts old new c.as_slice-2.result.now) (sym c.new.ensures) c.in_ok-named.ensures.parts) in
    local_init_is externs unit old new c.in_ok-named.ensures.grows told env object c.args.init.now node tables leads c.args.ordinal ty
    (record { local = c.in_ok-local.local; named = c.new.result; absent = c.new-2.result }) givens type c.in_ok-local.ensures c.in_ok-givens.ensures made put
