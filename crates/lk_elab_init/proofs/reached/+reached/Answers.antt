use Rattle.std.proofs.Common.{◌≡◌, ◌∙◌, inl, inr, true, refl, sym, ap, subst}
use Rattle.std.proofs.lemmas.Result.{IfOk-weaker}
use Rattle.lk_tree.specs.declared.expression.Expr.{Expr}
use Rattle.lk_typed.specs.Addresses.{inside, member_at, value}
use Rattle.lk_typed.specs.Ty.{Struct}
use Rattle.lk_typed.specs.Typing.{Typing}
use Rattle.lk_found.specs.Addresses.{prefix_address}
use Rattle.lk_elab_init.specs.Reaching.{IsConvertedReached, IsReached, IsMemberBehind, IsMemberOf, IsMovedTo, OfTyping, address_in, is_reached}
use Rattle.lk_elab_init.proofs.Addressing.{same_some}
use Rattle.lk_elab_init.proofs.AddressesByForm.{arrow_reached, binary_reached, cast_is_reached, index_reached, kept_address, kept_value, member_reached, not_null_converted, null_converted, paren_reached, prefix_reached, text_reached, true_of, word_reached}
use Rattle.lk_elab_init.proofs.Reaching.{function_value, null_kept}
use Rattle.lk_elab_init.proofs.reached.+reached.Goals as goal

pub moved_from-returns : goal.moved_from-returns
moved_from-returns t c = IfOk-weaker c.moved.result _ _ (λ r says at_end p same told x own a moves kept.
    says a (λ position there. moves position (c.in_ok-at.ensures at_end p same told x own ∙ there)) (sym c.in_ok-there.ensures ∙ kept)) c.moved.ensures

pub member_of-returns : goal.member_of-returns
member_of-returns t c = IfOk-weaker c.member.result _ _ (λ r says at_end p same told x own.
    let is = c.in_ok-number.ensures p (ap (λ (e : Expr). e.ordinal) same) (true_of at_end c.args.walk.now p told) in
    record {
      s = is.s;
      type = ap (λ (x : Typing). x.type) (same_some (sym own ∙ is.found)) ∙ is.type;
      k = c.in_ok-number.number;
      number = is.number;
      address = λ a there a_is. says a there (a_is ∙ ap (inside (member_at c.in_ok-number.number)) (c.in_ok-at.ensures at_end p same told x own));
    }) c.member.ensures

pub member_behind-returns : goal.member_behind-returns
member_behind-returns t c = IfOk-weaker c.member.result _ _ (λ r says at_end p same told x own.
    let is = c.in_ok-number.ensures p (ap (λ (e : Expr). e.ordinal) same) (true_of at_end c.args.walk.now p told) in (
      Struct is.s,
      ap (λ (x : Typing). (value x).type) (same_some (sym own ∙ is.found)) ∙ is.type,
      record {
        s = is.s;
        type = refl;
        k = c.in_ok-number.number;
        number = is.number;
        address = λ a there a_is. says a there (a_is ∙ ap (inside (member_at c.in_ok-number.number)) (c.in_ok-at.ensures at_end p same told x own));
      },
    )) c.member.ensures

pub prefixed-returns-in-Address : goal.prefixed-returns-in-Address
prefixed-returns-in-Address t c = IfOk-weaker c.address_of.result _ _ (λ r says at_end p same told x own.
    ap (λ o. prefix_address o x) c.in-Address.is ∙ says at_end p same told x own) c.address_of.ensures

pub prefixed-returns-in-Indirection : goal.prefixed-returns-in-Indirection
prefixed-returns-in-Indirection t c = IfOk-weaker c.value_of.result _ _ (λ r says at_end p same told x own.
    ap (λ o. prefix_address o x) c.in-Indirection.is ∙ says at_end p same told x own) c.value_of.ensures

pub reached_by-returns-in-Word : goal.reached_by-returns-in-Word
reached_by-returns-in-Word t c = IfOk-weaker c.named.result _ _ (λ r says reached. word_reached c.args.walk.now c.args.e.now c.args.address r says) c.named.ensures

pub reached_by-returns-in-Text : goal.reached_by-returns-in-Text
reached_by-returns-in-Text t c = λ reached. text_reached c.args.walk.now c.args.e.now c.args.address c.whole.result c.in-Text.field-0 c.in-Text.is c.whole.ensures

pub reached_by-returns-in-Paren : goal.reached_by-returns-in-Paren
reached_by-returns-in-Paren t c = IfOk-weaker c.address_of.result _ _ (λ r says reached.
    paren_reached c.args.walk.now c.args.e.now c.args.address r c.in-Paren.inner c.in-Paren.is (subst (λ i. IsReached c.args.walk.now i r) c.get.ensures says)) c.address_of.ensures

pub reached_by-returns-in-Prefix : goal.reached_by-returns-in-Prefix
reached_by-returns-in-Prefix t c = IfOk-weaker c.prefixed.result _ _ (λ r says reached.
    prefix_reached c.args.walk.now c.args.e.now c.args.address r c.in-Prefix.op c.in-Prefix.operand c.in-Prefix.is
    (subst (λ i. OfTyping c.args.walk.now i (λ x. prefix_address c.in-Prefix.op x ≡ address_in r)) c.get-in-Prefix.ensures says)) c.prefixed.ensures

pub reached_by-returns-in-Index : goal.reached_by-returns-in-Index
reached_by-returns-in-Index t c = IfOk-weaker c.moved_from.result _ _ (λ r says reached.
    let walk = c.args.walk.now in
    let e = c.args.e.now in
    let there = subst (λ i. IsMovedTo walk i c.args.address r) c.get-in-Index.ensures says in
    elim c.in-Index.is [
      | inl index ↦ index_reached walk e c.args.address r c.in-Index.pointer index.0 index.1 there
      | inr binary ↦ binary_reached walk e c.args.address r binary.0 c.in-Index.pointer binary.1 binary.2 there
    ]) c.moved_from.ensures

pub reached_by-returns-in-Member : goal.reached_by-returns-in-Member
reached_by-returns-in-Member t c = IfOk-weaker c.member_of.result _ _ (λ r says reached.
    member_reached c.args.walk.now c.args.e.now c.args.address r reached c.in-Member.object c.in-Member.name c.in-Member.is
    (subst (λ i. IsMemberOf c.args.walk.now i c.in-Member.name r) c.get-in-Member.ensures says)) c.member_of.ensures

pub reached_by-returns-in-Arrow : goal.reached_by-returns-in-Arrow
reached_by-returns-in-Arrow t c = IfOk-weaker c.member_behind.result _ _ (λ r says reached.
    arrow_reached c.args.walk.now c.args.e.now c.args.address r reached c.in-Arrow.pointer c.in-Arrow.name c.in-Arrow.is
    (subst (λ i. IsMemberBehind c.args.walk.now i c.in-Arrow.name r) c.get-in-Arrow.ensures says)) c.member_behind.ensures

pub reached_by-returns-in-Cast : goal.reached_by-returns-in-Cast
reached_by-returns-in-Cast t c = IfOk-weaker c.converted_address.result _ _ (λ r says reached.
    cast_is_reached c.args.walk.now c.args.e.now c.args.address r reached c.in-Cast.field-0 c.in-Cast.operand c.in-Cast.is
    (subst (λ i. IsConvertedReached c.args.walk.now i r) c.get-in-Cast.ensures says)) c.converted_address.ensures

pub address_of-returns-in-Null : goal.address_of-returns-in-Null
address_of-returns-in-Null t c = λ at_end p same told x own.
    let is = c.in_ok-address.ensures p (ap (λ (e : Expr). e.ordinal) same) (true_of at_end c.args.walk.now p told) in
    null_kept x.address (sym c.in-Null.is ∙ kept_address p c.in_ok-address.address x is own)

pub address_of-returns-in-Function : goal.address_of-returns-in-Function
address_of-returns-in-Function t c = IfOk-weaker c.reached_by.result _ _ (λ r says at_end p same told x own.
    let is = c.in_ok-address.ensures p (ap (λ (e : Expr). e.ordinal) same) (true_of at_end c.args.walk.now p told) in
    let reached : is_reached c.in_ok-address.address ≡ true = elim c.in-Function.is [
      | inl function ↦ ap is_reached function
      | inr inside ↦ ap is_reached inside.1
    ] in
    says reached at_end p same told x own (kept_address p c.in_ok-address.address x is own)) c.reached_by.ensures

pub value_of-returns-in-Null : goal.value_of-returns-in-Null
value_of-returns-in-Null t c = λ at_end p same told x own.
    let is = c.in_ok-value.ensures p (ap (λ (e : Expr). e.ordinal) same) (true_of at_end c.args.walk.now p told) in
    null_kept (value x).address (sym c.in-Null.is ∙ (kept_value p c.in_ok-value.value x is own).address)

pub value_of-returns-in-Function : goal.value_of-returns-in-Function
value_of-returns-in-Function t c = IfOk-weaker c.address_of.result _ _ (λ r says at_end p same told x own.
    let is = c.in_ok-value.ensures p (ap (λ (e : Expr). e.ordinal) same) (true_of at_end c.args.walk.now p told) in
    function_value x (sym c.in-Function.is ∙ (kept_value p c.in_ok-value.value x is own).address) ∙ says at_end p same told x own) c.address_of.ensures

pub value_of-returns-in_ok-at-in-Inside : goal.value_of-returns-in_ok-at-in-Inside
value_of-returns-in_ok-at-in-Inside t c = IfOk-weaker c.valued.result _ _ (λ r says at_end p same told x own.
    let is = c.in_ok-value.ensures p (ap (λ (e : Expr). e.ordinal) same) (true_of at_end c.args.walk.now p told) in
    let value_is = kept_value p c.in_ok-value.value x is own in
    says x value_is.element (c.in_ok-at-in-Inside.ensures at_end p same told x own) (sym c.in-Inside.is ∙ value_is.address)) c.valued.ensures

pub converted_address-returns-then-branch : goal.converted_address-returns-then-branch
converted_address-returns-then-branch t c = λ at_end p same told x own.
    let is = c.in_ok-is_null_at.ensures p (ap (λ (e : Expr). e.ordinal) same) (true_of at_end c.args.walk.now p told) in
    null_converted (value x) (ap (λ (y : Typing). (value y).is_null) (same_some (sym own ∙ is.has)) ∙ sym is.is ∙ c.if-branch.true)

pub converted_address-returns-else-branch : goal.converted_address-returns-else-branch
converted_address-returns-else-branch t c = IfOk-weaker c.value_of.result _ _ (λ r says at_end p same told x own.
    let is = c.in_ok-is_null_at.ensures p (ap (λ (e : Expr). e.ordinal) same) (true_of at_end c.args.walk.now p told) in
    not_null_converted (value x) (ap (λ (y : Typing). (value y).is_null) (same_some (sym own ∙ is.has)) ∙ sym is.is ∙ c.if-branch.false) ∙
    says at_end p same told x own) c.value_of.ensures
