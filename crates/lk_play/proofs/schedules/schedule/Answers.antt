use Rattle.std.proofs.Common.{◌≡◌, ◌∙◌, ◌+◌, ◌-◌, ◌≤◌, length, take, drop, refl, sym, ap, subst, arith}
use Rattle.std.proofs.lemmas.List.{length-take, length-drop}
use Rattle.lk_play.specs.Calls.{len_before, PutsLine}
use Rattle.lk_play.proofs.Cuts.{nothing_left, some_left}
use Rattle.lk_play.proofs.Turns.{Stands, begins, stops_bad, stops_good, goes_on}
use Rattle.lk_play.proofs.schedules.schedule.Goals as goal

pub loop-turns-init : goal.loop-turns-init
loop-turns-init c = record {
  stands = subst (λ ts. Stands c.args.bytes.now ts 1 c.args.bytes.now) (sym c.new-turns.ensures.items) (begins c.args.bytes.now);
  fits = omega (arith, c.requires);
}

pub returns-then-not-branch-clause-fault : goal.returns-then-not-branch-clause-fault
returns-then-not-branch-clause-fault c =
    let rest = c.loop-turns.rest.now in
    let line = c.split_at.result.0.now in
    let others = c.split_at.result.1.now in
    let line_is : line ≡ take (len_before 10 rest) rest = c.split_at.ensures.front ∙ ap (λ n. take n rest) c.len_before.ensures.value in
    let others_is : others ≡ drop (len_before 10 rest) rest = c.split_at.ensures.back ∙ ap (λ n. drop n rest) c.len_before.ensures.value in
    stops_bad c.args.bytes.now c.loop-turns.turns.items c.loop-turns.number rest c.loop-turns.invariant.stands line others line_is others_is (subst (PutsLine line c.loop-turns.turns.items c.put_line.new.turns.items) c.if-not-branch.true c.in_ok-put_line.ensures)

pub returns-in_default-clause-turns : goal.returns-in_default-clause-turns
returns-in_default-clause-turns c =
    let rest = c.loop-turns.rest.now in
    let line = c.split_at.result.0.now in
    let others = c.split_at.result.1.now in
    let line_is : line ≡ take (len_before 10 rest) rest = c.split_at.ensures.front ∙ ap (λ n. take n rest) c.len_before.ensures.value in
    let others_is : others ≡ drop (len_before 10 rest) rest = c.split_at.ensures.back ∙ ap (λ n. drop n rest) c.len_before.ensures.value in
    stops_good c.args.bytes.now c.loop-turns.turns.items c.loop-turns.number rest c.loop-turns.invariant.stands line others line_is others_is c.put_line.new.turns.items (nothing_left others c.in_default.len_below)
    (subst (PutsLine line c.loop-turns.turns.items c.put_line.new.turns.items) c.if-not-branch.false c.in_ok-put_line.ensures)

pub loop-turns-preserved : goal.loop-turns-preserved
loop-turns-preserved c =
    let rest = c.loop-turns.rest.now in
    let line = c.split_at.result.0.now in
    let others = c.split_at.result.1.now in
    let line_is : line ≡ take (len_before 10 rest) rest = c.split_at.ensures.front ∙ ap (λ n. take n rest) c.len_before.ensures.value in
    let others_is : others ≡ drop (len_before 10 rest) rest = c.split_at.ensures.back ∙ ap (λ n. drop n rest) c.len_before.ensures.value in
    let behind = take (length others - 1) (drop 1 others) in
    let some : 1 ≤ length others = omega (arith, c.in-len1-up.len_at_least) in
    let next = some_left others behind some refl in
    let shorter : length others ≤ length rest = omega (arith, ap length others_is, length-drop (len_before 10 rest) rest) in
    record {
      stands =
          goes_on c.args.bytes.now c.loop-turns.turns.items c.loop-turns.number rest c.loop-turns.invariant.stands line others line_is others_is c.put_line.new.turns.items next.0 behind next.1
          (subst (PutsLine line c.loop-turns.turns.items c.put_line.new.turns.items) c.if-not-branch.false c.in_ok-put_line.ensures) (c.loop-turns.number + 1) refl;
      fits = omega (arith, c.loop-turns.invariant.fits, length-take (length others - 1) (drop 1 others), shorter, some);
    }
