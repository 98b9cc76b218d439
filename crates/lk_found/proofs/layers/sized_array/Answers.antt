use Rattle.std.proofs.Common.{◌∙◌, sym, ap, Some}
use Rattle.std.specs.Option.{option_map}
use Rattle.lk_typed.specs.DeclaratorRules.{array_rules}
use Rattle.lk_typed.specs.Meaning.{meaning}
use Rattle.lk_typed.specs.Ty.{Array}
use Rattle.lk_check_decl.specs.Arrays.{size_of}
use Rattle.lk_check_decl.specs.Breaches.{told}
use Rattle.lk_found.proofs.Forming.{few_elements, in_range, none_is, array_made_by, array_not_made_by}
use Rattle.lk_found.proofs.layers.sized_array.Goals as goal

pub array-requires-clause-element : goal.array-requires-clause-element
array-requires-clause-element c = c.requires.element c.in-Some.ensures.whole.0 c.in-Some.ensures.whole.1

pub array-requires-clause-few : goal.array-requires-clause-few
array-requires-clause-few c =
    let tree = meaning c.args.types.now c.args.t in
    let none = none_is c.array_code-code.result (sym c.is_some.ensures ∙ c.if-is_some.false) in
    let sized = c.array_code-code.ensures.sized none in
    few_elements c.args.may_be_absent tree c.args.size c.requires.size sized c.count_in.result
    (c.count_in.ensures.count c.in-Some.ensures.whole.0 c.in-Some.ensures.whole.1 (in_range c.args.may_be_absent tree c.args.size sized)) c.in-Some.count c.in-Some.is

pub returns-in-None-clause-made : goal.returns-in-None-clause-made
returns-in-None-clause-made c = λ span same is may.
    let table = c.args.types.now in
    let tree = meaning table c.args.t in
    let made = c.nothing-in-None.result in
    let size = c.args.size in
    let none = none_is c.array_code-code.result (sym c.is_some.ensures ∙ c.if-is_some.false) in
    let rules = sym none ∙ c.array_code-code.ensures.rules span.env (sym is.0) ∙ ap (λ b. told (array_rules span.env b (Some tree) (size_of size))) (sym may) in
    array_not_made_by table table span tree size c.args.element c.requires.size is rules
    (λ complete sound. sym (c.count_in.ensures.count complete sound (in_range c.args.may_be_absent tree size (c.array_code-code.ensures.sized none)) tree) ∙ ap (option_map (Array tree)) c.in-None.is)
    made c.nothing-in-None.ensures.code c.nothing-in-None.ensures.ty c.nothing-in-None.ensures.large

pub returns-in_ok-made-in-Some-clause-made : goal.returns-in_ok-made-in-Some-clause-made
returns-in_ok-made-in-Some-clause-made c = λ span same is may.
    let old = c.args.types.now in
    let tree = meaning old c.args.t in
    let size = c.args.size in
    let none = none_is c.array_code-code.result (sym c.is_some.ensures ∙ c.if-is_some.false) in
    let rules = sym none ∙ c.array_code-code.ensures.rules span.env (sym is.0) ∙ ap (λ b. told (array_rules span.env b (Some tree) (size_of size))) (sym may) in
    let complete = c.in-Some.ensures.whole.0 in
    let sound = c.in-Some.ensures.whole.1 in
    let counted = sym (c.count_in.ensures.count complete sound (in_range c.args.may_be_absent tree size (c.array_code-code.ensures.sized none)) tree) ∙ ap (option_map (Array tree)) c.in-Some.is in
    array_made_by old c.array.new.types span tree size c.args.element c.requires.size is complete sound rules c.in-Some.count counted c.in_ok-made-in-Some.made
    (c.in_ok-made-in-Some.ensures.made span same)
