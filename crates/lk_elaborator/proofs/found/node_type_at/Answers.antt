use Rattle.std.proofs.Common.{◌∙◌, ap}
use Rattle.lk_typed.specs.Operands.{node_type}
use Rattle.lk_elaborator.proofs.found.node_type_at.Goals as goal

pub returns-clause-means : goal.returns-clause-means
returns-clause-means c = λ p same true_of.
    let has = c.in_ok-typing.ensures.typing p same true_of in
    record { typing = has.typing; found = has.found; known = c.in_ok-t.ensures.known; means = c.in_ok-t.ensures.means ∙ ap node_type has.is.type }
