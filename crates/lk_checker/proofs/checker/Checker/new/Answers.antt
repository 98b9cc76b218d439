use Rattle.std.proofs.Common.{◌≡◌, [], ap, subst, sym, rules}
use Rattle.lk_types.specs.Table.{Table}
use Rattle.lk_typed.proofs.Elements.{few_first}
use Rattle.lk_found.specs.Structs.{AreListed}
use Rattle.lk_checker.proofs.checker.Checker.new.Goals as goal

none_listed : (table : Table) → table.members ≡ [] → AreListed table []
none_listed table e = record { members = e; some = search rules }

pub returns-clause-sound : goal.returns-clause-sound
returns-clause-sound c =
    let types = c.in_ok-types.types in
    let first = ap (λ (table : Table). table.types) c.in_ok-types.ensures in
    record {
      ready = record { table_is = c.is_table.ensures; predeclared = ([], first) };
      few = few_first types c.is_table.ensures first;
      scope = c.new-2.ensures.known types;
      structs = subst (AreListed types) (sym (ap (λ scope. scope.structs) c.new-2.ensures.value)) (none_listed types (ap (λ (table : Table). table.members) c.in_ok-types.ensures));
    }
