use Rattle.std.proofs.Common.{arith, ap, sym, ◌∙◌, ◌≡◌, get_or, []}
use Rattle.std.proofs.lemmas.Grind.{common_steps}
use Rattle.std.proofs.lemmas.Option.{gets}
use Rattle.lk_lower_parts.specs.Givens.{behind_source}
use Rattle.lk_lower_parts.proofs.names.Given.function_in.Goals as goal

pub returns-in-None : goal.returns-in-None
returns-in-None c =
    let none : get_or c.args.self.now.functions.now.of_entities c.args.source [] ≡ [] = grind (arith, common_steps, gets) in
    c.behind_source-none.ensures ∙ sym (ap (λ row. get_or row c.args.e (behind_source c.args.self.now c.args.source)) none)
