use Rattle.lk_elab_expr.proofs.Passing.{wants_none}
use Rattle.lk_elab_expr.proofs.arguments.none_wanting.Goals as goal

pub returns-in-Ok-None : goal.returns-in-Ok-None
returns-in-Ok-None c = λ f same true_of. wants_none c.args.walk.now.types f c.args.count _ c.in-Ok-None.field-0-is (c.in-Ok-None.ensures f same true_of)
