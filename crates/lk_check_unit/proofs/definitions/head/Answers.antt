use Rattle.std.proofs.Common.{false, subst}
use Rattle.lk_typed.specs.DeclarationRules.{InDefinition}
use Rattle.lk_found.specs.Specified.{breaches_in}
use Rattle.lk_checker.proofs.GoingOn.{is_further, then_further}
use Rattle.lk_checker.specs.Moves.{KeepsAt}
use Rattle.lk_check_walk.specs.Specifying.{Specifies}
use Rattle.lk_check_unit.specs.Definitions.{NamesFunction}
use Rattle.lk_check_unit.proofs.Headed.{head_known, head_walked, marked}
use Rattle.lk_check_unit.proofs.definitions.head.Goals as goal

pub returns-clause-known : goal.returns-clause-known
returns-clause-known c =
    head_known c.declarator.new.checker c.name_of_definition.new.checker c.in_ok-ty.field-0 c.result_of-returned.result c.in_ok-ty.ensures.further.sound
    (then_further c.declarator.new.checker c.keep_dots.new.checker c.name_of_definition.new.checker
    (is_further c.declarator.new.checker c.keep_dots.new.checker c.in_ok-keep_dots.ensures.same c.in_ok-ty.ensures.further.sound) c.in_ok-name_of_definition.ensures.further)
    c.in_ok-ty.ensures.known c.result_of-returned.ensures.known

pub returns-clause-heads : goal.returns-clause-heads
returns-clause-heads c =
    head_walked c.args.checker.now c.specifiers.new.checker c.keep_all.new.self c.declarator.new.checker c.keep_dots.new.checker c.name_of_definition.new.checker c.args.node.now c.in_ok-told.told c.in_ok-ty.field-0
    c.result_of-returned.result c.at_definition-at.result (marked c.at_definition-at.result c.args.node.now.spot c.args.node.now.ordinal c.at_definition-at.ensures.spot c.at_definition-at.ensures.ordinal)
    (subst (λ ss. Specifies c.args.checker.now c.specifiers.new.checker InDefinition false false ss c.in_ok-told.told) c.list.ensures c.in_ok-told.ensures.specified)
    (subst (λ bs. KeepsAt c.specifiers.new.checker c.keep_all.new.self c.at_definition-at.result (breaches_in bs)) c.as_slice.ensures.value c.in_ok-keep_all.ensures.kept)
    c.in_ok-keep_all.ensures.same c.in_ok-ty.ensures.declared c.in_ok-keep_dots.ensures.kept c.in_ok-keep_dots.ensures.same
    (subst (λ ss. NamesFunction c.keep_dots.new.checker c.name_of_definition.new.checker ss c.args.node.now.declarator c.in_ok-ty.field-0.ty) c.as_slice-2.ensures.value c.in_ok-name_of_definition.ensures.names)
    c.in_ok-ty.ensures.further.sound c.in_ok-ty.ensures.further
    (then_further c.declarator.new.checker c.keep_dots.new.checker c.name_of_definition.new.checker
    (is_further c.declarator.new.checker c.keep_dots.new.checker c.in_ok-keep_dots.ensures.same c.in_ok-ty.ensures.further.sound) c.in_ok-name_of_definition.ensures.further)
    c.in_ok-ty.ensures.known c.result_of-returned.ensures.value
