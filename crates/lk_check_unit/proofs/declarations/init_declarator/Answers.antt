use Rattle.std.proofs.Common.{◌∙◌, refl, sym, ap, subst}
use Rattle.std.proofs.lemmas.Result.{IfOk-weaker, on_ok_weaker}
use Rattle.lk_typed.specs.DeclarationRules.{is_static_object}
use Rattle.lk_typed.specs.Declarations.{may_lack_size}
use Rattle.lk_check_decl.specs.Twins.{scope_of}
use Rattle.lk_check_unit.specs.InitDeclarators.{FindsName}
use Rattle.lk_check_unit.proofs.Asked.{grows_further}
use Rattle.lk_check_unit.proofs.Declares.{listed_known, none_in_block, one_declared}
use Rattle.lk_check_unit.proofs.Naming.{both_ok}
use Rattle.lk_check_unit.proofs.Staying.{grows_then}
use Rattle.lk_check_unit.proofs.declarations.init_declarator.Goals as goal

pub initialised-requires-clause-target : goal.initialised-requires-clause-target
initialised-requires-clause-target c = c.object-target.ensures.known c.name_of.new.checker.types c.in_ok-named.ensures.known

pub returns-clause-grows : goal.returns-clause-grows
returns-clause-grows c =
    on_ok_weaker c.initialised.result
    (λ grows. grows_then c.args.checker.now c.declarator.new.checker c.initialised.new.checker (grows_further c.args.checker.now c.declarator.new.checker c.in_ok-found.ensures.further)
    (grows_then c.declarator.new.checker c.name_of.new.checker c.initialised.new.checker (grows_further c.declarator.new.checker c.name_of.new.checker c.in_ok-named.ensures.further) grows))
    c.initialised.ensures.grows

pub returns-clause-walks : goal.returns-clause-walks
returns-clause-walks c =
    IfOk-weaker c.initialised.result _ _
    (λ hidden both.
    one_declared c.args.checker.now c.declarator.new.checker c.name_of.new.checker c.initialised.new.checker c.args.scope c.args.told.now c.args.d.now
    (record { may_be_absent = c.may_lack_size.result; in_size = _ }) c.in_ok-found.found c.in_ok-named.named c.object-target.result c.is_static.result hidden refl
    (λ init e. c.may_lack_size.ensures init (e ∙ sym c.is_some.ensures) ∙ ap (λ w. may_lack_size w init) c.as_slice-words.ensures.value) c.in_ok-found.ensures.declared
    (subst (λ w. FindsName c.declarator.new.checker c.name_of.new.checker c.args.scope w c.args.d.now c.in_ok-found.found.ty c.in_ok-named.named) c.as_slice-words.ensures.value c.in_ok-named.ensures.finds)
    c.object-target.ensures.value (c.is_static.ensures ∙ ap (is_static_object (scope_of c.args.scope)) c.as_slice-words.ensures.value) both.1 c.args.pending.now c.put_pending.new.out
    c.in_ok-named.ensures.further.sound c.in_ok-found.ensures.further c.in_ok-named.ensures.further both.0.longer
    (listed_known c.name_of.new.checker.types c.args.scope c.in_ok-named.named.pending c.in_ok-named.ensures.waits)
    (none_in_block c.name_of.new.checker.types c.args.scope c.in_ok-named.named.pending c.in_ok-named.ensures.waits) c.in_ok-put_pending.ensures)
    (both_ok _ _ c.initialised.result c.initialised.ensures.grows c.initialised.ensures.hides)
