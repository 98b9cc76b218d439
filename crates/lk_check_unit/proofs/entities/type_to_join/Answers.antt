use Rattle.std.proofs.Common.{ap}
use Rattle.std.specs.Option.{option_map}
use Rattle.lk_typed.specs.Meaning.{meaning}
use Rattle.lk_typed.specs.Redeclared.{is_linked_alike}
use Rattle.lk_names.specs.InScope.{env_in}
use Rattle.lk_check_unit.proofs.Joined.{join_is}
use Rattle.lk_check_unit.proofs.entities.type_to_join.Goals as goal

pub returns-in-External-clause-value : goal.returns-in-External-clause-value
returns-in-External-clause-value c = λ table rest t.
    join_is (env_in table rest c.args.names.now) c.args.name.now c.args.reach t (option_map (meaning table) c.type_before.result) (ap (λ r. is_linked_alike r r) c.in-External.is)
    (c.type_before.ensures.value table rest)

pub returns-in-Internal-clause-value : goal.returns-in-Internal-clause-value
returns-in-Internal-clause-value c = λ table rest t.
    join_is (env_in table rest c.args.names.now) c.args.name.now c.args.reach t (option_map (meaning table) c.type_before-in-Internal.result) (ap (λ r. is_linked_alike r r) c.in-Internal.is)
    (c.type_before-in-Internal.ensures.value table rest)
