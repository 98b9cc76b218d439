use Rattle.std.proofs.Common.{Some, sym, subst}
use Rattle.std.specs.Option.{option_map}
use Rattle.std.proofs.lemmas.Result.{on_ok_weaker}
use Rattle.lk_typed.specs.Declarations.{elements_given}
use Rattle.lk_typed.specs.InitialiserRules.{given_rules}
use Rattle.lk_typed.specs.Meaning.{meaning}
use Rattle.lk_checker.specs.Moves.{KeepsAt}
use Rattle.lk_check_unit.proofs.Naming.{size_kept}
use Rattle.lk_check_unit.proofs.declared.keep_size.Goals as goal

pub returns-in_ok-size-in-Some-init-clause-kept : goal.returns-in_ok-size-in-Some-init-clause-kept
returns-in_ok-size-in-Some-init-clause-kept c =
    on_ok_weaker c.keep.result
    (λ tells.
    subst (λ i. KeepsAt c.args.checker.now c.keep.new.self c.args.at (given_rules (elements_given i (option_map (meaning c.args.checker.now.types) c.args.t.now)))) (sym c.in-Some-init.is)
    (subst (λ x. KeepsAt c.args.checker.now c.keep.new.self c.args.at (given_rules (elements_given (Some c.in-Some-init.init) (option_map (meaning c.args.checker.now.types) x)))) (sym c.in-Some.is)
    (size_kept c.args.checker.now c.keep.new.self c.args.at c.in-Some.t c.in-Some-init.init c.in_ok-size-in-Some-init.size c.given_code-code.result c.in_ok-size-in-Some-init.ensures c.given_code-code.ensures tells)))
    c.keep.ensures
