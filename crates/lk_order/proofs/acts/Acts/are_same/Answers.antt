use Rattle.std.proofs.Common.{◌∙◌, sym}
use Rattle.std.proofs.lemmas.Bool.{false≢true}
use Rattle.lk_order.specs.Acts.{basis_in, linear_in}
use Rattle.lk_order.proofs.SameLemmas.{known_is, same_never, same_one}
use Rattle.lk_order.proofs.acts.Acts.are_same.Goals as goal

pub returns-then-mean_one_lock : goal.returns-then-mean_one_lock
returns-then-mean_one_lock c =
    let self = c.args.self.now in
    same_one (basis_in self) (linear_in self) c.args.function c.args.x c.args.y (c.mean_one_lock.ensures.0 c.if-mean_one_lock.true)

pub returns-then-are_origins : goal.returns-then-are_origins
returns-then-are_origins c =
    let self = c.args.self.now in
    let both = c.are_origins.ensures.0 c.if-are_origins.true in
    same_never (basis_in self) (linear_in self) c.args.function c.args.x c.args.y (λ mean. false≢true (sym c.if-mean_one_lock.false ∙ c.mean_one_lock.ensures.1 mean)) both.0 both.1

pub returns : goal.returns
returns c =
    let self = c.args.self.now in
    let basis = basis_in self in
    let linear = linear_in self in
    let last = c.in_ok-settle.ensures in
    let is = known_is basis linear c.in_ok-goals.goals.keys c.settle.new.known.keys c.in_ok-goals.ensures.asked (last.done c.if-branch.false) c.args.function c.args.x c.args.y (last.keeps.sound c.loop-known.invariant) c.in_ok-goals.ensures.there in
    (λ yes. is.0 (c.is_known.ensures.0 yes), λ same. c.is_known.ensures.1 (is.1 same))
