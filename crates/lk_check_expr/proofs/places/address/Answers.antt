use Rattle.std.proofs.Common.{◌∙◌, sym, ap, subst}
use Rattle.std.specs.Prelude.{not}
use Rattle.lk_base.specs.declared.code.Code.TheVariants.{NotAPlace}
use Rattle.lk_typed.specs.Places as spec
use Rattle.lk_typed.specs.Ty.{Pointer}
use Rattle.lk_typed.specs.Typing.{if_so}
use Rattle.lk_typed.specs.Codes.{least_code}
use Rattle.lk_typed.specs.Meaning.{meaning_of, IsKnownType}
use Rattle.lk_typed.specs.Typings.{typing, IsListed, IsTyping}
use Rattle.lk_typed.proofs.Verdicts.{unless_verdict}
use Rattle.lk_check_expr.proofs.Rows.{no_place}
use Rattle.lk_check_expr.proofs.places.address.Goals as goal

pub returns-in-Listed : goal.returns-in-Listed
returns-in-Listed c = λ p.
    let table = c.args.types.now in
    let x = typing table c.args.e.now p in
    let known = subst (IsKnownType table) c.in-Listed.is c.requires.known in
    let pointer = c.of_type-typed.ensures table known in
    let typed : IsTyping table c.of_type-typed.result (spec.address_of x) = record {
      operand = pointer.operand;
      type = pointer.type ∙ ap (λ ty. Pointer (meaning_of table ty)) (sym c.in-Listed.is);
      place = pointer.place;
      constant = pointer.constant;
      null = pointer.null;
    } in
    let code = c.code_if-code.ensures ∙ ap (λ taken. least_code (if_so (not taken) NotAPlace)) (c.is_addressable-taken.ensures p) in
    unless_verdict table c.of_type-typed.result (if_so (not (spec.is_addressable x)) NotAPlace) (spec.address_of x) c.unless.ensures code typed

pub returns-in-PointerTo : goal.returns-in-PointerTo
returns-in-PointerTo c = λ p.
    let table = c.args.types.now in
    no_place table c.args.e.now p _ c.in-PointerTo.is (λ is. subst IsListed c.in-PointerTo.is (c.requires.listed is))
