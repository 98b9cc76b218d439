use Rattle.std.proofs.Common.{◌≡◌, inl, true, false, refl}
use Rattle.lk_link.proofs.Meeting.{same_struct, struct_is, structs_differ}
use Rattle.lk_link.proofs.Pairing.{pair_known, pair_settled}
use Rattle.lk_link.proofs.structs.have_no_difference.Goals as goal

pub returns-then-eq : goal.returns-then-eq
returns-then-eq c =
    let is : same_struct c.args.pair.first c.args.pair.second ≡ true = cc in
    ((λ _. inl (struct_is c.args.pair.first c.args.pair.second is)), (λ _. refl))

pub settle-requires-clause-known : goal.settle-requires-clause-known
settle-requires-clause-known c = pair_known c.args.units.now c.args.pair c.new-pairs.result c.put.new.self c.new-pairs.ensures c.in_ok-put.ensures c.requires.known

pub returns : goal.returns
returns c =
    let other : same_struct c.args.pair.first c.args.pair.second ≡ false = cc in
    pair_settled c.args.units.now c.args.pair c.new-pairs.result c.put.new.self c.new-pairs.ensures c.in_ok-put.ensures (structs_differ c.args.pair.first c.args.pair.second other) c.settle.new.pairs c.in_ok-answer.answer c.in_ok-answer.ensures
