use Rattle.std.proofs.Common.{◌∙◌, sym}
use Rattle.std.proofs.lemmas.Bool.{false≢true}
use Rattle.lk_order.specs.Acts.{basis_in}
use Rattle.lk_order.proofs.FindingLemmas.{none_put, two_put}
use Rattle.lk_order.proofs.acts.Acts.put_two.Goals as goal

pub returns-then-not-is_lock_place : goal.returns-then-not-is_lock_place
returns-then-not-is_lock_place c = none_put (basis_in c.args.self.now) c.args.q c.args.r c.args.rows.now (λ lock lock'. false≢true (sym c.if-not-is_lock_place.true ∙ c.is_lock_place.ensures.1 lock))

pub returns-then-not-is_lock_place-2 : goal.returns-then-not-is_lock_place-2
returns-then-not-is_lock_place-2 c = none_put (basis_in c.args.self.now) c.args.q c.args.r c.args.rows.now (λ lock lock'. false≢true (sym c.if-not-is_lock_place-2.true ∙ c.is_lock_place-2.ensures.1 lock'))

pub returns : goal.returns
returns c =
    two_put (basis_in c.args.self.now) c.args.q c.args.r c.args.rows.now c.put.new.self (c.is_lock_place.ensures.0 c.if-not-is_lock_place.false) (c.is_lock_place-2.ensures.0 c.if-not-is_lock_place-2.false) c.put.ensures.grows.size c.put.ensures.pairs
