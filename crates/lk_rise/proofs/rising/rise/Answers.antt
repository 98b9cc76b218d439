use Rattle.std.proofs.Common.{◌≡◌, ◌<◌, ◌∙◌, ℕ, true, List, [], ◌∷◌, Contains, length, refl, sym, subst, arith}
use Rattle.std.proofs.lemmas.Bool.{eqb-false, eqb-true}
use Rattle.lk_rise.specs.declared.correlations.Correlation.{Correlation}
use Rattle.lk_links.specs.declared.link.Link.{Link}
use Rattle.lk_rise.specs.Correlations.{has_item}
use Rattle.lk_rise.specs.Tables.{Setting, IsSettled, IsSound, HasPassed, Steps}
use Rattle.lk_rise.proofs.RiseLemmas.{all_met, again_less, again_passed, again_settled, again_there, none_sound, stays_based, rise_is}
use Rattle.lk_rise.proofs.rising.rise.Goals as goal

-- one round over items
abbrev IsRound : Setting → List (List Link) → List Correlation → List (Correlation × List ℕ) → List (Correlation × List ℕ) → List Correlation → Type 0
IsRound s into items old new again = Steps s (λ e. (item : Correlation) → Contains items item → HasPassed s into item e) old new [] again

-- a list without length
no_items : (items : List Correlation) → length items ≡ 0 → items ≡ []
no_items [] none = refl
no_items (item ∷ items) none = absurd (omega (arith, none))

pub loop-rising-init : goal.loop-rising-init
loop-rising-init c =
    let s : Setting = record { facts = c.args.facts.now; held = c.args.held.now; base = c.args.based.now; subjects = c.args.subjects } in
    let first = c.in_ok-put_base.ensures.grows in
    let all = c.in_ok-again.ensures in
    record {
      sound = all.grows.sound (first.sound (subst (IsSound s) (sym c.new-table.ensures) (none_sound s)));
      based = λ i below. stays_based s i c.put_base.new.table c.pass_all.new.table all.grows (c.in_ok-put_base.ensures.based i below);
      there = all.there;
      passed = subst (λ into. (item : Correlation) → has_item c.pass_all.new.table item ≡ true → HasPassed s into item c.pass_all.new.table) c.deref.ensures.value all.passed;
      settled = subst (λ into. (item : Correlation) → has_item c.pass_all.new.table item ≡ true → IsSettled s into c.in_ok-again.again.items item c.pass_all.new.table) c.deref.ensures.value all.settled;
    }

pub loop-rising-smaller : goal.loop-rising-smaller
loop-rising-smaller c =
    let s : Setting = record { facts = c.args.facts.now; held = c.args.held.now; base = c.args.based.now; subjects = c.args.subjects } in
    let old = c.loop-rising.table in
    let items = c.loop-rising.again.items in
    let some : 0 < length items = omega (arith, eqb-false c.loop-rising.again.len 0 (sym c.is_empty.ensures ∙ c.loop-rising-test.true), c.loop-rising.again.ok.0) in
    let round = subst (λ list. IsRound s c.in_ok-into.into.items list old c.pass_again.new.table c.in_ok-again-2.again.items) c.deref-in-loop-rising-2.ensures.value
    (subst (λ into. IsRound s into c.deref-in-loop-rising-2.result.now old c.pass_again.new.table c.in_ok-again-2.again.items) c.deref-in-loop-rising.ensures.value c.in_ok-again-2.ensures.steps) in
    again_less s c.in_ok-into.into.items old c.pass_again.new.table items c.in_ok-again-2.again.items round c.loop-rising.invariant.there c.loop-rising.invariant.passed some

pub loop-rising-preserved : goal.loop-rising-preserved
loop-rising-preserved c =
    let s : Setting = record { facts = c.args.facts.now; held = c.args.held.now; base = c.args.based.now; subjects = c.args.subjects } in
    let into = c.in_ok-into.into.items in
    let old = c.loop-rising.table in
    let new = c.pass_again.new.table in
    let items = c.loop-rising.again.items in
    let again = c.in_ok-again-2.again.items in
    let invariant = c.loop-rising.invariant in
    let round = subst (λ list. IsRound s into list old new again) c.deref-in-loop-rising-2.ensures.value
    (subst (λ links. IsRound s links c.deref-in-loop-rising-2.result.now old new again) c.deref-in-loop-rising.ensures.value c.in_ok-again-2.ensures.steps) in
    let settled = subst (λ list. (item : Correlation) → Contains list item → IsSettled s into again item new) c.deref-in-loop-rising-2.ensures.value
    (subst (λ links. (item : Correlation) → Contains c.deref-in-loop-rising-2.result.now item → IsSettled s links again item new) c.deref-in-loop-rising.ensures.value c.in_ok-again-2.ensures.settled) in
    record {
      sound = round.grows.sound invariant.sound;
      based = λ i below. stays_based s i old new round.grows (invariant.based i below);
      there = again_there s into old new items again round invariant.there invariant.passed;
      passed = again_passed s into old new items again round invariant.there invariant.passed;
      settled = again_settled s into old new items again round invariant.there invariant.passed invariant.settled settled;
    }

pub returns-clause-risen : goal.returns-clause-risen
returns-clause-risen c =
    let s : Setting = record { facts = c.args.facts.now; held = c.args.held.now; base = c.args.based.now; subjects = c.args.subjects } in
    let into = c.in_ok-into.into.items in
    let table = c.loop-rising.table in
    let none : c.loop-rising.again.items ≡ [] = no_items c.loop-rising.again.items (omega (arith, eqb-true c.loop-rising.again.len 0 (sym c.is_empty.ensures ∙ c.loop-rising-test.false), c.loop-rising.again.ok.0)) in
    rise_is s into table c.in_ok-into.ensures.links c.loop-rising.invariant.sound c.loop-rising.invariant.based c.loop-rising.invariant.passed
    (all_met s into table c.loop-rising.again.items none c.loop-rising.invariant.settled)
