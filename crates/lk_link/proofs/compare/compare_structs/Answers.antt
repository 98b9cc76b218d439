use Rattle.std.proofs.Common.{◌≡◌, true, false}
use Rattle.lk_link.proofs.Meeting.{same_struct, struct_is, structs_differ, same_structs, met_structs}
use Rattle.lk_link.proofs.compare.compare_structs.Goals as goal

pub returns-then-eq : goal.returns-then-eq
returns-then-eq c =
    let is : same_struct c.whole.result c.whole-2.result ≡ true = cc in
    same_structs c.args.first.now c.args.second.now c.args.a c.args.b c.whole.result c.whole-2.result c.whole.ensures c.whole-2.ensures c.args.pairs.now (struct_is c.whole.result c.whole-2.result is)

pub returns : goal.returns
returns c =
    let is : same_struct c.whole.result c.whole-2.result ≡ false = cc in
    met_structs c.args.first.now c.args.second.now c.args.a c.args.b c.whole.result c.whole-2.result c.whole.ensures c.whole-2.ensures c.args.pairs.now c.put.new.self
    (structs_differ c.whole.result c.whole-2.result is) c.in_ok-put.ensures
