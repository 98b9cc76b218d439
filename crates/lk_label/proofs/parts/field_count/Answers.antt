use Rattle.std.proofs.Common.{◌<◌, ◌∙◌, length, subst, arith}
use Rattle.std.proofs.lemmas.List.{length-map}
use Rattle.lk_types.specs.Table.{fields_of, members_of}
use Rattle.lk_types.specs.declared.c_type.CType.{CType}
use Rattle.lk_types.specs.declared.member.StructMember.{StructMember}
use Rattle.lk_types.proofs.NodeLemmas.{type_is}
use Rattle.lk_label.proofs.PartLists.{few_fields}
use Rattle.lk_label.proofs.parts.field_count.Goals as goal

pub overflow_cast-result : goal.overflow_cast-result
overflow_cast-result c =
    let types = c.args.types.now in
    let form = type_is types c.args.t c.get.result.now c.get.ensures.value ∙ c.in-Struct.is in
    let few = subst (λ (f : CType). length (fields_of types f) < 65537) form (few_fields types c.get.ensures.table c.args.t c.requires) in
    let same = length-map (members_of types c.in-Struct.s) (λ (m : StructMember). m.ty) in
    rw c.members.ensures (omega (arith, few, same))

pub overflow_cast-result-in-Function : goal.overflow_cast-result-in-Function
overflow_cast-result-in-Function c =
    let types = c.args.types.now in
    let form = type_is types c.args.t c.get.result.now c.get.ensures.value ∙ c.in-Function.is in
    let few = subst (λ (f : CType). length (fields_of types f) < 65537) form (few_fields types c.get.ensures.table c.args.t c.requires) in
    rw c.list.ensures (omega (arith, few))

pub overflow_add-result : goal.overflow_add-result
overflow_add-result c =
    let types = c.args.types.now in
    let form = type_is types c.args.t c.get.result.now c.get.ensures.value ∙ c.in-Function.is in
    let few = subst (λ (f : CType). length (fields_of types f) < 65537) form (few_fields types c.get.ensures.table c.args.t c.requires) in
    rw c.list.ensures (omega (arith, few))
