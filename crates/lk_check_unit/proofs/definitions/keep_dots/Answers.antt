use Rattle.std.proofs.lemmas.Result.{on_ok_weaker}
use Rattle.std.specs.Option.{option_map}
use Rattle.lk_typed.specs.Meaning.{meaning}
use Rattle.lk_check_unit.proofs.Defining.{dots_kept}
use Rattle.lk_check_unit.proofs.Naming.{same_told}
use Rattle.lk_check_unit.proofs.definitions.keep_dots.Goals as goal

pub returns-clause-kept : goal.returns-clause-kept
returns-clause-kept c =
    on_ok_weaker c.keep.result
    (λ tells. dots_kept c.args.checker.now c.keep.new.self c.args.at (option_map (meaning c.args.checker.now.types) c.args.t.now) c.definition_code-code.result c.definition_code-code.ensures tells) c.keep.ensures

pub returns-clause-same : goal.returns-clause-same
returns-clause-same c = on_ok_weaker c.keep.result (λ tells. same_told c.args.checker.now c.keep.new.self c.args.at _ tells) c.keep.ensures
