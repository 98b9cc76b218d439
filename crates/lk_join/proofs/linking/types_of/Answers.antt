use Rattle.lk_join.proofs.linking.types_of.Goals as goal

pub returns : goal.returns
returns c =
    let numbers = c.in_ok-numbers.numbers in
    let types = c.in_ok-types.ensures in
    record { structs = numbers.rows; count = numbers.count; numbers = c.in_ok-numbers.ensures; within = types.structs; put = types.put; members = types.members; table_is = types.table; predeclared = types.predeclared; pointers = types.pointers }
