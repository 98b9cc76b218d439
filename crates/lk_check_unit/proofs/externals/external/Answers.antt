use Rattle.std.proofs.Common.{sym, subst}
use Rattle.std.proofs.lemmas.Result.{on_ok_weaker}
use Rattle.lk_check_unit.specs.Sources.{WalksExternal}
use Rattle.lk_check_unit.proofs.Sources.{declaration_walked, empty_walked, function_walked}
use Rattle.lk_check_unit.proofs.externals.external.Goals as goal

pub returns-in-Function-clause-walks : goal.returns-in-Function-clause-walks
returns-in-Function-clause-walks c =
    on_ok_weaker c.definition.result
    (λ walks. subst (λ d. WalksExternal c.args.checker.now c.definition.new.checker d c.args.pending.now c.args.pending.now) (sym c.in-Function.is)
    (function_walked c.args.checker.now c.definition.new.checker c.in-Function.node c.args.pending.now walks))
    c.definition.ensures.walks

pub returns-in-Declare-clause-walks : goal.returns-in-Declare-clause-walks
returns-in-Declare-clause-walks c =
    on_ok_weaker c.declaration.result
    (λ walks. subst (λ d. WalksExternal c.args.checker.now c.declaration.new.checker d c.args.pending.now c.declaration.new.pending) (sym c.in-Declare.is)
    (declaration_walked c.args.checker.now c.declaration.new.checker c.in-Declare.node c.args.pending.now c.declaration.new.pending walks))
    c.declaration.ensures.walks

pub returns-in-Empty-clause-walks : goal.returns-in-Empty-clause-walks
returns-in-Empty-clause-walks c =
    subst (λ d. WalksExternal c.args.checker.now c.args.checker.now d c.args.pending.now c.args.pending.now) (sym c.in-Empty.is)
    (empty_walked c.args.checker.now c.in-Empty.field-0 c.args.pending.now c.requires)
