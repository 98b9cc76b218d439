use Rattle.std.proofs.Common.{◌≡◌, ◌∙◌, true, sym, subst, ap}
use Rattle.indexmap.specs.IndexSet.{insert_key}
use Rattle.lk_link.specs.Pairs.{IsAmong, IsAnswered}
use Rattle.lk_link.proofs.Meeting.{same_pair, put_answered}
use Rattle.lk_link.proofs.pairs.Pairs.put.Goals as goal

pub returns : goal.returns
returns c =
    let is : c.insert.new.self.keys ≡ insert_key same_pair c.args.self.now c.args.pair = c.in_ok-insert.ensures.keys ∙ ap (λ old. insert_key same_pair old c.args.pair) c.self.view_is in
    subst (λ new. IsAnswered (λ p. p ≡ c.args.pair) c.args.self.now new (λ pairs. IsAmong pairs c.args.pair) true) (sym is) (put_answered c.args.self.now c.args.pair)
