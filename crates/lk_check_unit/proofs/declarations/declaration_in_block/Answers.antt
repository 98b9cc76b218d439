use Rattle.std.proofs.Common.{subst}
use Rattle.std.proofs.lemmas.Result.{on_ok_weaker}
use Rattle.lk_check_decl.specs.declared.words.Scope.TheVariants.{Block}
use Rattle.lk_check_unit.specs.InitDeclarators.{WalksNode}
use Rattle.lk_check_unit.proofs.Declares.{walked_in_block}
use Rattle.lk_check_unit.proofs.declarations.declaration_in_block.Goals as goal

pub returns-clause-walks : goal.returns-clause-walks
returns-clause-walks c =
    on_ok_weaker c.declaration.result
    (λ walks. walked_in_block c.args.checker.now c.declaration.new.checker c.args.node.now c.declaration.new.pending
    (subst (λ ps. WalksNode c.args.checker.now c.declaration.new.checker Block c.args.node.now ps c.declaration.new.pending) c.nothing_pending-pending.ensures walks))
    c.declaration.ensures.walks
