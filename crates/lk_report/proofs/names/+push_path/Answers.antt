use Rattle.std.proofs.Common.{◌≡◌, ◌∙◌, ◌++◌, ◌∷◌, [], sym, ap, subst, OnOk}
use Rattle.std.specs.Option.{option_copied}
use Rattle.lk_report.specs.Names.{path_text}
use Rattle.lk_report.proofs.Paths.{nothing, no_path, no_target, no_part, no_member, member, no_element, element}
use Rattle.lk_report.proofs.names.+push_path.Goals as goal

pub returns-in_default : goal.returns-in_default
returns-in_default t c =
    nothing c.args.types.now c.args.t c.args.out.now.items c.args.path.now (no_path c.args.types.now c.args.t c.args.out.now.items c.args.path.now c.in_default.ensures.cases)

pub returns-in-Some-element_type : goal.returns-in-Some-element_type
returns-in-Some-element_type t c =
    let now = c.args.types.now in
    let is = c.in-Some.ensures.cases.0 ∙ ap (λ s. s ∷ c.in-Some.rest.now) c.in-Element.is in
    let text = ap (λ out. out ++ path_text now c.in-Some-element_type.element c.in-Some.rest.now) c.in_ok-extend_from_slice-in-Element.ensures.items ∙ element now c.args.t c.args.out.now.items c.args.path.now c.in-Some.rest.now c.in-Some-element_type.element is (sym c.element_type.ensures.value ∙ c.in-Some-element_type.is) in
    subst (λ text. OnOk c.push_path.result (c.push_path.new.out.items ≡ text)) text c.push_path.ensures

pub returns-in-None : goal.returns-in-None
returns-in-None t c =
    let is = c.in-Some.ensures.cases.0 ∙ ap (λ s. s ∷ c.in-Some.rest.now) c.in-Element.is in
    c.in_ok-extend_from_slice-in-Element.ensures.items ∙ no_element c.args.types.now c.args.t c.args.out.now.items c.args.path.now c.in-Some.rest.now is (sym c.element_type.ensures.value ∙ c.in-None.is)

pub returns-in_ok-extend_from_slice-in-Some-member_of : goal.returns-in_ok-extend_from_slice-in-Some-member_of
returns-in_ok-extend_from_slice-in-Some-member_of t c =
    let now = c.args.types.now in
    let m = c.in-Some-member_of.member.now in
    let is = c.in-Some.ensures.cases.0 ∙ ap (λ s. s ∷ c.in-Some.rest.now) c.in-Field.is in
    let found = sym c.member_of.ensures.value ∙ ap (λ o. option_copied o) c.in-Some-member_of.is in
    let items = c.in_ok-extend_from_slice-in-Some-member_of.ensures.items ∙ ap (λ out. out ++ c.bytes.result.now) c.in_ok-push-in-Some-member_of.ensures.items ∙ ap (λ name. (c.args.out.now.items ++ 46 ∷ []) ++ name) c.bytes.ensures.value in
    let text = ap (λ out. out ++ path_text now m.ty c.in-Some.rest.now) items ∙ member now c.args.t c.args.out.now.items c.in-Field.number c.args.path.now c.in-Some.rest.now m is found in
    subst (λ text. OnOk c.push_path-in-Some-member_of.result (c.push_path-in-Some-member_of.new.out.items ≡ text)) text c.push_path-in-Some-member_of.ensures

pub returns-in-None-member_of : goal.returns-in-None-member_of
returns-in-None-member_of t c =
    let is = c.in-Some.ensures.cases.0 ∙ ap (λ s. s ∷ c.in-Some.rest.now) c.in-Field.is in
    nothing c.args.types.now c.args.t c.args.out.now.items c.args.path.now (no_member c.args.types.now c.args.t c.args.out.now.items c.in-Field.number c.args.path.now c.in-Some.rest.now is (sym c.member_of.ensures.value ∙ ap (λ o. option_copied o) c.in-None-member_of.is))

pub returns-in-Target : goal.returns-in-Target
returns-in-Target t c =
    let is = c.in-Some.ensures.cases.0 ∙ ap (λ s. s ∷ c.in-Some.rest.now) c.in-Target.is in
    nothing c.args.types.now c.args.t c.args.out.now.items c.args.path.now (no_target c.args.types.now c.args.t c.args.out.now.items c.args.path.now c.in-Some.rest.now is)

pub returns-in-Part : goal.returns-in-Part
returns-in-Part t c =
    let is = c.in-Some.ensures.cases.0 ∙ ap (λ s. s ∷ c.in-Some.rest.now) c.in-Part.is in
    nothing c.args.types.now c.args.t c.args.out.now.items c.args.path.now (no_part c.args.types.now c.args.t c.args.out.now.items _ c.args.path.now c.in-Some.rest.now is)
