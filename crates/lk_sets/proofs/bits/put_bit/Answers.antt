use Rattle.lk_sets.proofs.WordBits.{bit_in-set_bit}
use Rattle.lk_sets.proofs.bits.put_bit.Goals as goal

pub returns-clause-bits : goal.returns-clause-bits
returns-clause-bits c = λ k. bit_in-set_bit c.args.words.now.items c.args.bit k c.index_mut.result.now c.requires c.index_mut.ensures.value
