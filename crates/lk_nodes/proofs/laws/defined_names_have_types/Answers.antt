use Rattle.lk_nodes.proofs.Names as lemma
use Rattle.lk_nodes.proofs.laws.defined_names_have_types.Goals as goal

pub returns : goal.returns
returns c = lemma.defined_names_have_types
