use Rattle.std.proofs.Common.{◌≡◌, ◌∙◌, None, ap, option_map, sym}
use Rattle.lk_found.specs.Findings.{refusal_of}
use Rattle.lk_checker.specs.States.{kept_in}
use Rattle.lk_checker.specs.declared.checker.Checked.{Checked}
use Rattle.lk_checker.specs.declared.checker.Checker.{Checker}
use Rattle.lk_checker.proofs.LetThrough.{unless_told}
use Rattle.lk_checker.proofs.checker.Checker.checked.Goals as goal

pub returns-clause-ok : goal.returns-clause-ok
returns-clause-ok c =
    unless_told c.first_fault-first.result c.found.result c.unless_refused.result c.unless_refused.ensures (λ (checked : Checked). option_map refusal_of (kept_in c.args.self).least ≡ None)
    (λ none. sym c.first_fault-first.ensures.told ∙ none)

pub returns-clause-types : goal.returns-clause-types
returns-clause-types c =
    unless_told c.first_fault-first.result c.found.result c.unless_refused.result c.unless_refused.ensures (λ (checked : Checked). checked.types ≡ c.args.self.types)
    (λ none. c.found.ensures.types ∙ ap (λ (checker : Checker). checker.types) c.first_fault-first.ensures.rest)

pub returns-clause-names : goal.returns-clause-names
returns-clause-names c =
    unless_told c.first_fault-first.result c.found.result c.unless_refused.result c.unless_refused.ensures (λ (checked : Checked). checked.names ≡ c.args.self.names)
    (λ none. c.found.ensures.names ∙ ap (λ (checker : Checker). checker.names) c.first_fault-first.ensures.rest)

pub returns-clause-outside : goal.returns-clause-outside
returns-clause-outside c =
    unless_told c.first_fault-first.result c.found.result c.unless_refused.result c.unless_refused.ensures (λ (checked : Checked). checked.outside ≡ c.args.self.outside)
    (λ none. c.found.ensures.outside ∙ ap (λ (checker : Checker). checker.outside) c.first_fault-first.ensures.rest)

pub returns-clause-records : goal.returns-clause-records
returns-clause-records c =
    unless_told c.first_fault-first.result c.found.result c.unless_refused.result c.unless_refused.ensures (λ (checked : Checked). checked.records ≡ c.args.self.records)
    (λ none. c.found.ensures.records ∙ ap (λ (checker : Checker). checker.records) c.first_fault-first.ensures.rest)
