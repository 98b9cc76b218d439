use Rattle.std.proofs.Common.{◌∙◌, ap}
use Rattle.lk_typed.specs.Meaning.{meaning_of}
use Rattle.lk_elab_expr.proofs.allocations.element_number.Goals as goal

pub returns-clause-means : goal.returns-clause-means
returns-clause-means c = c.in_ok-t.ensures.means ∙ ap (meaning_of c.args.walk.now.types) c.in_ok-element.ensures.value
