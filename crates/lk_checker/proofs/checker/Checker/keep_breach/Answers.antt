use Rattle.std.proofs.Common.{Option, ◌∷◌, [], sym, subst}
use Rattle.lk_typed.specs.Env.{Name}
use Rattle.lk_found.specs.Specified.{name_told}
use Rattle.lk_checker.proofs.KeepsAll.{told_one}
use Rattle.lk_checker.specs.Moves.{KeepsAt}
use Rattle.lk_checker.proofs.checker.Checker.keep_breach.Goals as goal

pub returns-in_ok-keep_named-in-Some-clause-kept : goal.returns-in_ok-keep_named-in-Some-clause-kept
returns-in_ok-keep_named-in-Some-clause-kept c =
    let code = c.args.breach.now.code in
    subst (λ (name : Option Name). KeepsAt c.args.self.now c.keep_named.new.self c.args.at (record { code = code; name = name_told name } ∷ [])) (sym c.in-Some.is)
    (told_one c.args.self.now c.keep_named.new.self c.args.at (record { code = code; name = c.in-Some.name }) c.in_ok-keep_named-in-Some.ensures)

pub returns-in_ok-keep-in-None-clause-kept : goal.returns-in_ok-keep-in-None-clause-kept
returns-in_ok-keep-in-None-clause-kept c =
    let code = c.args.breach.now.code in
    subst (λ (name : Option Name). KeepsAt c.args.self.now c.keep.new.self c.args.at (record { code = code; name = name_told name } ∷ [])) (sym c.in-None.is)
    (told_one c.args.self.now c.keep.new.self c.args.at (record { code = code; name = [] }) c.in_ok-keep-in-None.ensures)
