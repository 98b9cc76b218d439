use Rattle.std.proofs.lemmas.Option.{none-some}
use Rattle.lk_point_types.proofs.readers.target_form.Goals as goal

pub returns-in-None-clause-form : goal.returns-in-None-clause-form
returns-in-None-clause-form c = λ is h. none-some h.0 (c.in-None.ensures.only h.0 h.1)
