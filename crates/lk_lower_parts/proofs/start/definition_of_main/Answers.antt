use Rattle.std.proofs.Common.{subst, sym, ◌∙◌, ℕ}
use Rattle.std.proofs.lemmas.Option.{same_Some}
use Rattle.lk_lower_parts.specs.Wholes.{IsMainAt}
use Rattle.lk_lower_parts.proofs.start.definition_of_main.Goals as goal

pub returns-clause-there : goal.returns-clause-there
returns-clause-there c =
    let is = c.requires in
    subst (λ (at : ℕ × ℕ). IsMainAt c.args.whole.now at.0 at.1) (same_Some (is.source, is.number) c.in-Some.definition (sym is.defined ∙ sym c.in-Some.ensures)) is.is
