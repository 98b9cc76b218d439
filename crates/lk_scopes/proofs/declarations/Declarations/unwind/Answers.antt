use Rattle.std.proofs.Common.{◌≡◌, ◌≤◌, length, suc, arith}
use Rattle.lk_scopes.proofs.TurnedLists.{one_less, still_there, taken_behind}
use Rattle.lk_scopes.proofs.declarations.Declarations.unwind.Goals as goal

pub loop-self-preserved-in-Some : goal.loop-self-preserved-in-Some
loop-self-preserved-in-Some g c =
    let gone = c.in-Some.ensures in
    let less : length c.loop-self.self ≡ suc (length c.pop.new.self) = one_less c.loop-self.self c.pop.new.self c.in-Some.item gone in
    let more : length c.push_reserved.new.self.items ≡ suc (length c.loop-self.taken.items) =
    one_less c.push_reserved.new.self.items c.loop-self.taken.items c.in-Some.item c.push_reserved.ensures.items in
    let within : c.args.count ≤ length c.pop.new.self = omega (arith, less, c.behind.ensures, c.loop-self-test.true) in
    record {
      left = still_there c.args.count c.loop-self.self c.pop.new.self _ c.in-Some.item gone within c.loop-self.invariant.left;
      all = taken_behind c.args.count c.loop-self.self c.pop.new.self c.loop-self.taken.items c.push_reserved.new.self.items _ c.in-Some.item gone c.push_reserved.ensures.items within
          c.loop-self.invariant.all;
      room = omega (arith, less, more, within, c.push_reserved.ensures.capacity, c.loop-self.invariant.room);
    }
