use Rattle.lk_typed.proofs.Meanings.{meaning_by}
use Rattle.lk_typed.proofs.forms.form.Goals as goal

pub returns-clause-tree : goal.returns-clause-tree
returns-clause-tree c = meaning_by c.args.types.now c.get.ensures.table c.args.t c.get.result.now c.requires c.get.ensures.value
