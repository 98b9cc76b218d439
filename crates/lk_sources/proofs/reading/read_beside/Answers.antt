use Rattle.std.proofs.Common.{sym, subst}
use Rattle.lk_sources.specs.Calls.{AreFileNames}
use Rattle.lk_sources.specs.Reading.{names_of}
use Rattle.lk_sources.proofs.reading.read_beside.Goals as goal

pub read_named-requires : goal.read_named-requires
read_named-requires g c = subst (λ name. AreFileNames (names_of name)) (sym c.beside.ensures) c.requires

pub returns-clause-ok : goal.returns-clause-ok
returns-clause-ok g c = rw (c.beside.ensures, c.longest_beside.ensures) at c.read_named.ensures.ok

pub returns-clause-err : goal.returns-clause-err
returns-clause-err g c = rw (c.beside.ensures, c.longest_beside.ensures) at c.read_named.ensures.err
