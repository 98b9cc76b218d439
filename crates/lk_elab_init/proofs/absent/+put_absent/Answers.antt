use Rattle.std.proofs.Common.{◌∙◌, ◌++◌, ◌∷◌, ◌+◌, ◌<◌, [], Some, ap, arith, map, refl, subst}
use Rattle.std.proofs.lemmas.Result.{on_ok_weaker}
use Rattle.lk_types.specs.Building.{IsMadeOf, types_of}
use Rattle.lk_types.specs.Sizes.{HasLowerParts, steps_of}
use Rattle.lk_types.specs.Table.{IsKnown, members_of}
use Rattle.lk_types.specs.declared.c_type.CType.TheVariants.{Array, Struct}
use Rattle.lk_typed.proofs.Meanings.{meaning_by}
use Rattle.lk_typed.specs.Meaning.{meaning}
use Rattle.lk_elab_init.specs.Settled.{fields_listed}
use Rattle.lk_elab_init.proofs.Members.{all_got, all_past, member_at, member_meant}
use Rattle.lk_elab_init.proofs.Putting.{all_members_put, array_put, cell_by, empty_put, member_put, nothing_by}
use Rattle.lk_elab_init.proofs.absent.+put_absent.Goals as goal

pub put_absent-requires-in-loop-number : goal.put_absent-requires-in-loop-number
put_absent-requires-in-loop-number t c =
    let now = c.args.types.now in
    let made = subst (IsMadeOf now c.args.t) c.in-Struct.is c.get.ensures.made_of in
    let lower = subst (HasLowerParts now c.args.t) c.in-Struct.is c.get.ensures.lower in
    let at = member_at now c.in-Struct.s c.loop-number.number c.members-member-items.result.now c.member-item.result c.members-member-items.ensures (omega (arith, c.loop-number-test.true, c.loop-number.auto.number-end)) c.member-item.is in
    let ty = c.member-item.result.ty in
    let types = types_of (members_of now c.in-Struct.s) in
    let fewer = all_got (λ u. steps_of now u < steps_of now c.args.t) types c.loop-number.number ty lower at in
    (omega (arith, c.decreases, fewer), all_got (IsKnown now) types c.loop-number.number ty made.1 at)

pub returns-in-Void : goal.returns-in-Void
returns-in-Void t c =
    let types = c.args.types.now in
    nothing_by (fields_listed types) c.args.cells.now c.args.way.now (meaning types) (meaning types c.args.t) c.get.result.now (meaning_by types c.get.ensures.table c.args.t c.get.result.now c.requires c.get.ensures.value)
    c.in-Void.is c.args.out.now.items

pub returns-in-Void-2 : goal.returns-in-Void-2
returns-in-Void-2 t c =
    let types = c.args.types.now in
    nothing_by (fields_listed types) c.args.cells.now c.args.way.now (meaning types) (meaning types c.args.t) c.get.result.now (meaning_by types c.get.ensures.table c.args.t c.get.result.now c.requires c.get.ensures.value)
    c.in-Void.is c.args.out.now.items

pub returns-in-Void-3 : goal.returns-in-Void-3
returns-in-Void-3 t c =
    let types = c.args.types.now in
    nothing_by (fields_listed types) c.args.cells.now c.args.way.now (meaning types) (meaning types c.args.t) c.get.result.now (meaning_by types c.get.ensures.table c.args.t c.get.result.now c.requires c.get.ensures.value)
    c.in-Void.is c.args.out.now.items

pub returns-in-Int : goal.returns-in-Int
returns-in-Int t c =
    let types = c.args.types.now in
    on_ok_weaker c.put_place.result
    (λ put.
    cell_by (fields_listed types) c.args.cells.now c.args.way.now (meaning types) (meaning types c.args.t) c.get.result.now (meaning_by types c.get.ensures.table c.args.t c.get.result.now c.requires c.get.ensures.value)
    c.in-Int.is c.args.out.now.items c.put_place.new.out.items put)
    c.put_place.ensures

pub returns-then-count-eq0 : goal.returns-then-count-eq0
returns-then-count-eq0 t c =
    let here = fields_listed c.args.types.now in
    empty_put here c.args.cells.now c.args.way.now c.args.out.now.items c.args.out.now.items (meaning c.args.types.now c.args.t) (meaning c.args.types.now c.in-Array.element) c.in-Array.count
    (meaning_by c.args.types.now c.get.ensures.table c.args.t (Array c.in-Array.element c.in-Array.count) c.requires (c.get.ensures.value ∙ ap Some c.in-Array.is)) c.if-count-eq0.true refl

pub returns-in_ok-inner-in-Array : goal.returns-in_ok-inner-in-Array
returns-in_ok-inner-in-Array t c =
    let types = c.args.types.now in
    let some = c.if-count-eq0.false in
    on_ok_weaker c.put_absent.result
    (λ put.
    array_put (fields_listed types) c.args.cells.now c.args.way.now c.args.out.now.items c.put_absent.new.out.items (meaning types c.args.t) (meaning types c.in-Array.element) c.in-Array.count
    c.list.result.now (meaning_by types c.get.ensures.table c.args.t (Array c.in-Array.element c.in-Array.count) c.requires (c.get.ensures.value ∙ ap Some c.in-Array.is))
    (omega (arith, some)) (c.list.ensures ∙ c.in_ok-inner-in-Array.ensures) put)
    c.put_absent.ensures

pub returns-after-loop-number : goal.returns-after-loop-number
returns-after-loop-number t c =
    let types = c.args.types.now in
    let members = c.members-member-items.result.now in
    all_members_put (fields_listed types) c.args.cells.now c.args.way.now (map (meaning types) (types_of members)) c.in-Struct.s c.args.out.now.items c.loop-number.out.items c.loop-number.number
    (meaning types c.args.t) (meaning_by types c.get.ensures.table c.args.t (Struct c.in-Struct.s) c.requires (c.get.ensures.value ∙ ap Some c.in-Struct.is))
    (ap (λ ms. map (meaning types) (types_of ms)) c.members-member-items.ensures)
    (all_past types members c.loop-number.number c.loop-number-test.false) c.loop-number.invariant

pub loop-number-preserved : goal.loop-number-preserved
loop-number-preserved t c =
    let types = c.args.types.now in
    let members = c.members-member-items.result.now in
    let k = c.loop-number.number in
    let member = c.member-item.result in
    let end = c.loop-number.auto.number-end in
    let test = c.loop-number-test.true in
    member_put (fields_listed types) c.args.cells.now c.args.way.now (map (meaning types) (types_of members)) c.args.out.now.items c.loop-number.out.items c.put_absent-in-loop-number.new.out.items k
    (k + 1) (meaning types member.ty) c.list-in-loop-number.result.now (omega arith) (member_meant types members k member (omega (arith, end, test)) c.member-item.is)
    (c.list-in-loop-number.ensures ∙ (c.in_ok-inner-in-Struct.ensures ∙ ap (λ turn. c.args.way.now ++ turn ∷ []) c.in_ok-turn_to-in-Struct.ensures)) c.loop-number.invariant
    c.in_ok-put_absent-in-Struct.ensures
