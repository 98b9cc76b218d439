use Rattle.std.proofs.Common.{◌∙◌, List, [], ◌∷◌, ap, arith, length, length-append, refl}
use Rattle.lk_types.specs.Table.{Table}
use Rattle.lk_types.specs.declared.member.StructMember.{StructMember}
use Rattle.lk_join.proofs.Completed.{begun_same}
use Rattle.lk_join.proofs.types.begin_structs.Goals as goal

pub loop-begun-init : goal.loop-begun-init
loop-begun-init c = (omega arith, omega arith, λ n. refl, refl)

pub loop-begun-preserved : goal.loop-begun-preserved
loop-begun-preserved c =
    let before = c.loop-begun.table in
    let after = c.begin_struct.new.self in
    let ok = c.in_ok-begin_struct.ensures.ok in
    let same = begun_same before after ok in
    let none : List StructMember = [] in
    let long = ap (λ (table : Table). length table.members) ok in
    let count = c.loop-begun.invariant.1 in
    let here = c.structs.ensures in
    (omega (arith, count, here), omega (arith, long, count, length-append before.members (none ∷ [])), λ n. same n ∙ c.loop-begun.invariant.2 n, ap (λ (table : Table). table.types) ok ∙ c.loop-begun.invariant.3)
