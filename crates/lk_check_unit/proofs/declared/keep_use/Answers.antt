use Rattle.std.proofs.lemmas.Result.{on_ok_weaker}
use Rattle.lk_base.specs.declared.code.Code.TheVariants.{Mismatch}
use Rattle.lk_check_unit.proofs.Naming.{one_kept, same_told}
use Rattle.lk_check_unit.proofs.declared.keep_use.Goals as goal

pub returns-clause-kept : goal.returns-clause-kept
returns-clause-kept c =
    on_ok_weaker c.keep.result (λ tells. one_kept c.args.checker.now c.keep.new.self c.args.named.now.at _ Mismatch c.use_code-code.result c.use_code-code.ensures tells) c.keep.ensures

pub returns-clause-same : goal.returns-clause-same
returns-clause-same c = on_ok_weaker c.keep.result (λ tells. same_told c.args.checker.now c.keep.new.self c.args.named.now.at _ tells) c.keep.ensures
