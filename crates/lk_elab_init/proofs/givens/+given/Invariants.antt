use Rattle.std.proofs.Common.{drop}
use Rattle.lk_elab_init.specs.Giving.{Puts}
use Rattle.lk_elab_init.proofs.Giving.{ArePut}
use Rattle.lk_elab_init.proofs.givens.+given.Given as goal

-- the entries up to this one gave what was put
abbrev pub invariant-given_by_entries-loop-entry : goal.invariant-given_by_entries-loop-entry
invariant-given_by_entries-loop-entry l =
    Puts l.initial.out.items l.out.items (ArePut l.walk l.ty l.path l.number l.entries (drop l.entry-index l.entries))
