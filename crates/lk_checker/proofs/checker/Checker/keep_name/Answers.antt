use Rattle.std.proofs.Common.{◌∙◌, sym, subst}
use Rattle.std.specs.Prelude.{option_map}
use Rattle.lk_typed.specs.Names.{meaning_in}
use Rattle.lk_typed.specs.NodeRules.{plain_name}
use Rattle.lk_typed.specs.Redeclared.{name_rules}
use Rattle.lk_rules.proofs.Kept.{the_lesser_is_kept}
use Rattle.lk_rules.specs.Keeping.{KeepsCodes, keep}
use Rattle.lk_found.proofs.Keepings.{named_told}
use Rattle.lk_found.specs.Findings.{mark_at}
use Rattle.lk_checker.specs.States.{kept_in}
use Rattle.lk_checker.proofs.checker.Checker.keep_name.Goals as goal

pub returns-clause-keeps : goal.returns-clause-keeps
returns-clause-keeps c = λ env is.
    let old = kept_in c.args.self.now in
    let mark = mark_at c.args.at in
    let name = c.args.name.now in
    let told = option_map (λ code. record { code = code; name = name }) c.in_ok-code.code in
    subst (KeepsCodes old mark (name_rules env (plain_name name (meaning_in c.args.self.now.types c.args.meaning)))) (sym c.in_ok-keep_named.ensures.kept)
    (subst (λ broken. KeepsCodes old mark broken (keep old mark told)) (named_told c.in_ok-code.code name ∙ c.in_ok-code.ensures env is) (the_lesser_is_kept old mark told))
