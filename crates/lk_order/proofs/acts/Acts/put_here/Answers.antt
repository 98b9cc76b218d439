use Rattle.std.proofs.Common.{◌≡◌, ◌<◌, ◌↔◌, ◌∙◌, ℕ, [], All, true, length, get_or, sym, subst, arith}
use Rattle.std.proofs.lemmas.List.{get_or_read}
use Rattle.std.proofs.lemmas.Result.{on_ok_weaker}
use Rattle.lk_order.specs.Acts.{basis_in, linear_in, functions_in, labels_in}
use Rattle.lk_order.specs.Giving.{Gives, Has}
use Rattle.lk_order.specs.Pairing.{IsPairAt, IsPairBelow, IsPairOf}
use Rattle.lk_order.specs.declared.giving.By.TheVariants.{Functions}
use Rattle.lk_order.proofs.PairingLemmas.{dead_pairs, here_is, pairs_below}
use Rattle.lk_order.proofs.WorkLemmas.{finds_all, finds_as, finds_none}
use Rattle.lk_sets.specs.Ids.{has_id}
use Rattle.lk_order.proofs.acts.Acts.put_here.Goals as goal

pub returns-then-not-live-clause-finds : goal.returns-then-not-live-clause-finds
returns-then-not-live-clause-finds c =
    let self = c.args.self.now in
    let basis = basis_in self in
    finds_none (IsPairAt basis (linear_in self) c.args.point) c.args.pairs.now.keys (dead_pairs basis (linear_in self) c.args.point (sym c.live.ensures ∙ c.if-not-live.true))

pub returns-clause-finds : goal.returns-clause-finds
returns-clause-finds c =
    let self = c.args.self.now in
    let basis = basis_in self in
    let linear = linear_in self in
    let within : c.args.point < length c.args.acquired.now = omega (arith, c.requires.point, c.requires.acquired.sets.all) in
    let held : c.ids.result.now ≡ get_or c.args.acquired.now c.args.point [] = c.ids.ensures.list ∙ get_or_read c.args.acquired.now c.args.point c.index-acquired-point.result within c.index-acquired-point.is [] in
    let gives : (s : ℕ) → (has_id c.ids-2.result.now s ≡ true) ↔ Gives basis (Has basis.program Functions c.args.wants.now) c.args.point s =
    λ s. subst (λ ids. (has_id ids s ≡ true) ↔ Gives basis (Has basis.program Functions c.args.wants.now) c.args.point s) (sym c.ids-2.ensures.list) (c.in_ok-wanted.ensures.members s) in
    on_ok_weaker c.put_pairs.result
    (finds_as (IsPairOf c.function.result c.ids.result.now c.ids-2.result.now) (IsPairAt basis linear c.args.point) c.args.pairs.now.keys c.put_pairs.new.pairs.keys
    (here_is basis linear c.args.wants.now c.requires.wants c.args.point c.function.result c.ids.result.now c.ids-2.result.now c.function.ensures.value
    (λ x. (λ there. c.requires.acquired.sound c.args.point x (subst (λ ids. has_id ids x ≡ true) held there), λ acq. subst (λ ids. has_id ids x ≡ true) (sym held) (c.requires.acquired.all c.args.point x acq)))
    gives))
    c.put_pairs.ensures

pub returns-clause-in_range : goal.returns-clause-in_range
returns-clause-in_range c =
    let self = c.args.self.now in
    let few = length self.labels.now.entries in
    let within : c.args.point < length c.args.acquired.now = omega (arith, c.requires.point, c.requires.acquired.sets.all) in
    let held : c.ids.result.now ≡ get_or c.args.acquired.now c.args.point [] = c.ids.ensures.list ∙ get_or_read c.args.acquired.now c.args.point c.index-acquired-point.result within c.index-acquired-point.is [] in
    let function = c.function.ensures.live_in_range (sym c.live.ensures ∙ c.if-not-live.false) in
    on_ok_weaker c.put_pairs.result
    (λ finds. finds_all (IsPairOf c.function.result c.ids.result.now c.ids-2.result.now) (IsPairBelow (functions_in self) (labels_in self)) c.args.pairs.now.keys c.put_pairs.new.pairs.keys finds c.requires.pairs
    (pairs_below (functions_in self) (labels_in self) c.function.result c.ids.result.now c.ids-2.result.now function
    (subst (All (λ x. x < few)) (sym held) (c.requires.acquired.sets.below.each c.args.point [] within).below)
    (subst (All (λ x. x < few)) (sym c.ids-2.ensures.list) c.in_ok-wanted.ensures.in_range)))
    c.put_pairs.ensures
