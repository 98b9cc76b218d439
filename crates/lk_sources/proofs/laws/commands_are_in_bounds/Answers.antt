use Rattle.lk_sources.proofs.OneReading as lemma
use Rattle.lk_sources.proofs.laws.commands_are_in_bounds.Goals as goal

pub returns : goal.returns
returns c = lemma.commands_are_in_bounds
