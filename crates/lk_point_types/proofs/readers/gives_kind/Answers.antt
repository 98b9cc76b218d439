use Rattle.std.proofs.lemmas.Option.{none-some}
use Rattle.lk_point_types.proofs.Found.{never}
use Rattle.lk_point_types.proofs.readers.gives_kind.Goals as goal

pub returns-in-None : goal.returns-in-None
returns-in-None c = never (λ h. none-some c.args.kind (c.in-None.ensures.only c.args.kind h))
