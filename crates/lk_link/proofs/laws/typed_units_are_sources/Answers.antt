use Rattle.lk_link.proofs.TypedSources as lemma
use Rattle.lk_link.proofs.laws.typed_units_are_sources.Goals as goal

pub returns : goal.returns
returns c = lemma.typed_units_are_sources
