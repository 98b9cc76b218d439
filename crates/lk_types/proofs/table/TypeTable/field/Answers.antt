use Rattle.std.proofs.Common.{◌∙◌, ◌∷◌, Some, slice_get, subst, ap, sym}
use Rattle.lk_types.specs.Table.{fields_of, IsKnown}
use Rattle.lk_types.specs.declared.c_type.CType.TheVariants.{Struct, Function}
use Rattle.lk_types.specs.Building.{IsMadeOf}
use Rattle.lk_types.proofs.NodeLemmas.{type_is, struct_field, no_struct_field, parameter_field, no_parameter_field, field_known}
use Rattle.lk_types.proofs.table.TypeTable.field.Goals as goal

pub returns-then-place-members-clause-known : goal.returns-then-place-members-clause-known
returns-then-place-members-clause-known c =
    let now = c.args.self.now in
    subst (λ member. IsKnown now member.ty) c.index-members-place.is
    (field_known now c.args.t (Struct c.in-Struct.s) c.requires (subst (IsMadeOf now c.args.t) c.in-Struct.is c.get.ensures.made_of) c.args.number c.index-members-place.result.ty
    (struct_field now c.in-Struct.s c.members-members.result.now c.members-members.ensures c.args.number c.index-members-place.result c.if-place-members.true c.index-members-place.is))

pub returns-else-place-members-clause-value : goal.returns-else-place-members-clause-value
returns-else-place-members-clause-value c =
    let now = c.args.self.now in
    let at = c.get.ensures.value ∙ ap Some c.in-Struct.is in
    sym (ap (λ form. slice_get (fields_of now form) c.args.number) (type_is now c.args.t _ at) ∙
    no_struct_field now c.in-Struct.s c.members-members.result.now c.members-members.ensures c.args.number c.if-place-members.false)

pub returns-then-place-params-clause-value : goal.returns-then-place-params-clause-value
returns-then-place-params-clause-value c =
    let now = c.args.self.now in
    let at = c.get.ensures.value ∙ ap Some c.in-Function.is in
    sym (ap (λ form. slice_get (fields_of now form) c.args.number) (type_is now c.args.t _ at) ∙
    ap (λ ps. slice_get (c.in-Function.result ∷ ps) c.args.number) (sym c.list-params.ensures) ∙
    parameter_field c.in-Function.result c.list-params.result.now c.args.number c.index-params-place.result c.if-place-eq0.false c.if-place-params.true c.index-params-place.is)

pub returns-then-place-params-clause-known : goal.returns-then-place-params-clause-known
returns-then-place-params-clause-known c =
    let now = c.args.self.now in
    field_known now c.args.t (Function c.in-Function.result c.in-Function.params c.in-Function.dots) c.requires (subst (IsMadeOf now c.args.t) c.in-Function.is c.get.ensures.made_of) c.args.number c.index-params-place.result
    (ap (λ ps. slice_get (c.in-Function.result ∷ ps) c.args.number) (sym c.list-params.ensures) ∙
    parameter_field c.in-Function.result c.list-params.result.now c.args.number c.index-params-place.result c.if-place-eq0.false c.if-place-params.true c.index-params-place.is)

pub returns-else-place-params-clause-value : goal.returns-else-place-params-clause-value
returns-else-place-params-clause-value c =
    let now = c.args.self.now in
    let at = c.get.ensures.value ∙ ap Some c.in-Function.is in
    sym (ap (λ form. slice_get (fields_of now form) c.args.number) (type_is now c.args.t _ at) ∙
    ap (λ ps. slice_get (c.in-Function.result ∷ ps) c.args.number) (sym c.list-params.ensures) ∙
    no_parameter_field c.in-Function.result c.list-params.result.now c.args.number c.if-place-eq0.false c.if-place-params.false)
