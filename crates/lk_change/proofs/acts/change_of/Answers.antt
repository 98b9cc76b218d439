use Rattle.lk_change.proofs.acts.change_of.Goals as goal

pub returns-in-Binary : goal.returns-in-Binary
returns-in-Binary c = rw c.in-Binary.is c.gives_binary.ensures

pub returns-in-Release : goal.returns-in-Release
returns-in-Release c = rw c.in-Release.is c.releases_by.ensures
