use Rattle.lk_nodes.proofs.Names as lemma
use Rattle.lk_nodes.proofs.laws.declared_names_have_types.Goals as goal

pub returns : goal.returns
returns c = lemma.declared_names_have_types
