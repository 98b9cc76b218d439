use Rattle.lk_names.proofs.names.Names.may_use.Goals as goal

pub returns-in-Some : goal.returns-in-Some
returns-in-Some c table rest = rw c.in-Some.is (c.admits.ensures table rest)
