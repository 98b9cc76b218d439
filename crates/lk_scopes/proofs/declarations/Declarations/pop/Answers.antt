use Rattle.std.proofs.Common.{[]}
use Rattle.lk_scopes.proofs.LastPlaces.{entries_popped, entry_in_table}
use Rattle.lk_scopes.proofs.declarations.Declarations.pop.Goals as goal

pub put_back-requires : goal.put_back-requires
put_back-requires g c =
    entry_in_table g.T.Named.name_of (λ e. e.item) (λ e. e.hides) c.self.inside.entries.items c.pop.new.self.items c.in-Some.field-0 c.self.inside.latest.entries [] c.name.result.now
    c.in-Some.ensures.items c.self.invariant c.name.ensures

pub invariant_of-self : goal.invariant_of-self
invariant_of-self g c =
    entries_popped g.T.Named.name_of (λ e. e.item) (λ e. e.hides) c.self.inside.entries.items c.pop.new.self.items c.in-Some.field-0 c.self.inside.latest.entries c.put_back.new.latest.entries
    c.name.result.now c.in-Some.ensures.items c.self.invariant c.name.ensures c.put_back.ensures
