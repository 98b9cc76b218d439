use Rattle.lk_order.proofs.PairingLemmas.{paired_itself, same_paired}
use Rattle.lk_order.proofs.WorkLemmas.{finds_put}
use Rattle.lk_order.proofs.pairing.put_pair.Goals as goal

pub returns : goal.returns
returns c = finds_put _ same_paired paired_itself c.args.pairs.now.keys c.insert.new.self.keys c.args.pair c.in_ok-insert.ensures.keys
