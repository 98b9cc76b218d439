use Rattle.std.proofs.Common.{◌∙◌, sym}
use Rattle.lk_elaborator.proofs.found.found_of.Goals as goal

pub returns-then-is_of_source-clause-found : goal.returns-then-is_of_source-clause-found
returns-then-is_of_source-clause-found c = λ p same is. is.found c.in-Some.found (rw same (sym c.found.ensures ∙ c.in-Some.is))
