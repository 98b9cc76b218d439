use Rattle.lk_sets.proofs.Square.{Puts, puts}
use Rattle.lk_sets.proofs.bit_rows.BitRows.put.Goals as goal
use Rattle.lk_sets.proofs.bit_rows.BitRows.put.Goals.{After-put_bit}

put : (c : After-put_bit) → Puts c.self.inside.size c.args.self.now c.put_bit.new.words.items c.args.a c.args.b c.put_bit.result
put c = puts _ _ c.self.inside.words.items _ _ _ _ _ c.self.view_is c.self.invariant c.requires.a c.requires.b c.place-place.ensures c.put_bit.ensures.length c.put_bit.ensures.bits c.put_bit.ensures.new c.put_bit.ensures.same

pub invariant_of-self : goal.invariant_of-self
invariant_of-self c = (put c).rows

pub returns-clause-pairs : goal.returns-clause-pairs
returns-clause-pairs c = (put c).pairs

pub returns-clause-new : goal.returns-clause-new
returns-clause-new c = (put c).is_new

pub returns-clause-grows : goal.returns-clause-grows
returns-clause-grows c = (put c).grows
