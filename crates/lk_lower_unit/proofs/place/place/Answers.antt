use Rattle.std.proofs.Common.{arith, ap, refl, subst, sym, ◌∙◌, ◌≡◌, ◌++◌, ◌∷◌, length, rules}
use Rattle.std.proofs.lemmas.List.Elements.{All-contains, Contains-append_right}
use Rattle.std.specs.List.{Contains}
use Rattle.lk_lower_unit.proofs.Placing.{one_done, then_kept}
use Rattle.lk_lower_unit.specs.Placed.{HasNumber}
use Rattle.lk_lower_unit.proofs.place.place.Goals as goal

pub place_step-requires-clause-step : goal.place_step-requires-clause-step
place_step-requires-clause-step c =
    let all = c.args.steps.items in
    let done = c.loop-one.invariant.done in
    let next = c.next.new.self.rest.items in
    let begins : c.loop-one.one-iterator.rest.items ≡ c.in-Some.one ∷ next = search rules in
    let there : Contains all c.in-Some.one = subst (λ xs. Contains xs c.in-Some.one) (ap (λ xs. done.0 ++ xs) (sym begins) ∙ done.1) (Contains-append_right done.0 (c.in-Some.one ∷ next) c.in-Some.one (0, omega arith, refl)) in
    subst (λ n. HasNumber c.args.names.now n c.in-Some.one) (sym c.loop-one.invariant.beside.as_many)
    (All-contains (HasNumber c.args.names.now (length c.args.points.now.items)) all c.in-Some.one c.requires.steps there)

pub loop-one-preserved : goal.loop-one-preserved
loop-one-preserved c =
    let old = c.loop-one.points.items in
    let new = c.place_step.new.points.items in
    let rest = c.loop-one.one-iterator.rest.items in
    let next = c.next.new.self.rest.items in
    let begins : rest ≡ c.in-Some.one ∷ next = search rules in record {
      can_next = tt;
      is_finite = tt;
      beside = then_kept c.args.points.now.items old new c.loop-one.invariant.beside c.in_ok-place_step.ensures.beside;
      done = one_done c.args.names.now c.args.steps.items rest next c.in-Some.one old new begins c.in_ok-place_step.ensures c.loop-one.invariant.done;
    }
