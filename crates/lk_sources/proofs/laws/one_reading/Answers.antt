use Rattle.lk_sources.proofs.OneReading.{has_one_reading, never_too_long}
use Rattle.lk_sources.proofs.laws.one_reading.Goals as goal

pub returns-clause-reading : goal.returns-clause-reading
returns-clause-reading c = has_one_reading

pub returns-clause-never : goal.returns-clause-never
returns-clause-never c = never_too_long
