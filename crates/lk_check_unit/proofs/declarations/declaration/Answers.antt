use Rattle.std.proofs.Common.{◌∙◌, [], false, refl, sym, ap, subst}
use Rattle.std.specs.Prelude.{if◌then◌else◌}
use Rattle.std.proofs.lemmas.Result.{on_ok_weaker}
use Rattle.lk_typed.specs.DeclarationRules.{InDeclaration}
use Rattle.lk_typed.specs.Declarations.{is_alone}
use Rattle.lk_found.specs.Specified.{breaches_in}
use Rattle.lk_checker.specs.Moves.{KeepsAt}
use Rattle.lk_check_walk.specs.Specifying.{Specifies}
use Rattle.lk_check_unit.specs.InitDeclarators.{DeclaresAll}
use Rattle.lk_check_unit.proofs.Asked.{grows_further}
use Rattle.lk_check_unit.proofs.Declares.{node_walked, nothing_at}
use Rattle.lk_check_unit.proofs.Naming.{both_held, further_same, same_itself}
use Rattle.lk_check_unit.proofs.Staying.{grows_then}
use Rattle.lk_check_unit.proofs.declarations.declaration.Goals as goal

pub returns-then-is_hidden-clause-grows : goal.returns-then-is_hidden-clause-grows
returns-then-is_hidden-clause-grows c = grows_then c.args.checker.now c.specifiers.new.checker c.init_declarators.new.checker (grows_further c.args.checker.now c.specifiers.new.checker c.in_ok-told.ensures.further) c.in_ok-is_hidden.ensures.grows

pub returns-then-is_hidden-clause-walks : goal.returns-then-is_hidden-clause-walks
returns-then-is_hidden-clause-walks c =
    node_walked c.args.checker.now c.specifiers.new.checker c.init_declarators.new.checker c.init_declarators.new.checker c.args.scope c.args.node.now c.in_ok-told.told c.args.pending.now c.init_declarators.new.pending c.in_ok-is_hidden.is_hidden (record { spot = c.args.node.now.spot; ordinal = c.args.node.now.ordinal }) refl
    (subst (λ ss. Specifies c.args.checker.now c.specifiers.new.checker InDeclaration (is_alone c.args.node.now.declarators) false ss c.in_ok-told.told) c.list.ensures (subst (λ a. Specifies c.args.checker.now c.specifiers.new.checker InDeclaration a false c.list.result.now c.in_ok-told.told) (c.is_alone.ensures ∙ ap is_alone c.list-declarators.ensures) c.in_ok-told.ensures.specified))
    c.in_ok-told.ensures.further
    (subst (λ ds. DeclaresAll c.specifiers.new.checker c.init_declarators.new.checker c.args.scope c.in_ok-told.told ds c.args.pending.now c.init_declarators.new.pending c.in_ok-is_hidden.is_hidden) c.list-declarators.ensures c.in_ok-is_hidden.ensures.walks)
    (nothing_at c.init_declarators.new.checker (record { spot = c.args.node.now.spot; ordinal = c.args.node.now.ordinal }) (breaches_in c.in_ok-told.told.breaches.items) c.in_ok-is_hidden.is_hidden c.if-is_hidden.true) (same_itself c.init_declarators.new.checker)

pub returns-clause-grows : goal.returns-clause-grows
returns-clause-grows c =
    on_ok_weaker c.keep_all.result
    (λ same. grows_then c.args.checker.now c.specifiers.new.checker c.keep_all.new.self (grows_further c.args.checker.now c.specifiers.new.checker c.in_ok-told.ensures.further)
    (grows_then c.specifiers.new.checker c.init_declarators.new.checker c.keep_all.new.self c.in_ok-is_hidden.ensures.grows (grows_further c.init_declarators.new.checker c.keep_all.new.self (further_same c.init_declarators.new.checker c.keep_all.new.self c.in_ok-is_hidden.ensures.grows.sound same))))
    c.keep_all.ensures.same

pub returns-clause-walks : goal.returns-clause-walks
returns-clause-walks c =
    on_ok_weaker c.keep_all.result
    (λ both.
    node_walked c.args.checker.now c.specifiers.new.checker c.init_declarators.new.checker c.keep_all.new.self c.args.scope c.args.node.now c.in_ok-told.told c.args.pending.now c.init_declarators.new.pending c.in_ok-is_hidden.is_hidden (record { spot = c.args.node.now.spot; ordinal = c.args.node.now.ordinal }) refl
    (subst (λ ss. Specifies c.args.checker.now c.specifiers.new.checker InDeclaration (is_alone c.args.node.now.declarators) false ss c.in_ok-told.told) c.list.ensures (subst (λ a. Specifies c.args.checker.now c.specifiers.new.checker InDeclaration a false c.list.result.now c.in_ok-told.told) (c.is_alone.ensures ∙ ap is_alone c.list-declarators.ensures) c.in_ok-told.ensures.specified))
    c.in_ok-told.ensures.further
    (subst (λ ds. DeclaresAll c.specifiers.new.checker c.init_declarators.new.checker c.args.scope c.in_ok-told.told ds c.args.pending.now c.init_declarators.new.pending c.in_ok-is_hidden.is_hidden) c.list-declarators.ensures c.in_ok-is_hidden.ensures.walks)
    (subst (λ h. KeepsAt c.init_declarators.new.checker c.keep_all.new.self (record { spot = c.args.node.now.spot; ordinal = c.args.node.now.ordinal }) (if h then [] else breaches_in c.in_ok-told.told.breaches.items)) (sym c.if-is_hidden.false)
    (subst (λ bs. KeepsAt c.init_declarators.new.checker c.keep_all.new.self (record { spot = c.args.node.now.spot; ordinal = c.args.node.now.ordinal }) (breaches_in bs)) c.as_slice.ensures.value both.0)) both.1)
    (both_held _ _ c.keep_all.result c.keep_all.ensures.kept c.keep_all.ensures.same)
