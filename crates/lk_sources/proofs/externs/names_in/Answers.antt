use Rattle.std.proofs.Common.{◌≡◌, ◌∙◌, ◌-◌, ◌≤◌, true, false, length, take, drop, refl, sym, ap, subst, arith}
use Rattle.std.proofs.lemmas.List.{append-nil, length-take, length-drop}
use Rattle.lk_lex.specs.Bytes.{line_len}
use Rattle.lk_sources.specs.Calls.{is_line, with_line, IsListed}
use Rattle.lk_sources.specs.Externs.{listed}
use Rattle.lk_sources.specs.declared.externs.Listed.TheVariants as listing
use Rattle.lk_sources.proofs.Lines.{lists_bad, lists_end, lists_next, nothing_left}
use Rattle.lk_sources.proofs.externs.names_in.Goals as goal

pub returns-then-not-branch : goal.returns-then-not-branch
returns-then-not-branch c =
    let rest = c.loop-names.rest.now in
    let line = c.split_at.result.0.now in
    let others = c.split_at.result.1.now in
    let is : line ≡ take (line_len rest) rest = c.split_at.ensures.front ∙ ap (λ n. take n rest) c.line_len.ensures.value in
    let left : others ≡ drop (line_len rest) rest = c.split_at.ensures.back ∙ ap (λ n. drop n rest) c.line_len.ensures.value in
    let bad : is_line line ≡ false = sym c.in_ok-put_line.ensures.good ∙ c.if-not-branch.true in
    let whole = lists_bad (listed c.args.text.now) c.loop-names.names.items c.loop-names.number rest line c.loop-names.invariant.so_far is others left bad in
    subst (λ w. IsListed w (listing.BadLine c.loop-names.number)) (sym whole) refl

pub returns-in_default : goal.returns-in_default
returns-in_default c =
    let rest = c.loop-names.rest.now in
    let line = c.split_at.result.0.now in
    let others = c.split_at.result.1.now in
    let is : line ≡ take (line_len rest) rest = c.split_at.ensures.front ∙ ap (λ n. take n rest) c.line_len.ensures.value in
    let left : others ≡ drop (line_len rest) rest = c.split_at.ensures.back ∙ ap (λ n. drop n rest) c.line_len.ensures.value in
    let good : is_line line ≡ true = sym c.in_ok-put_line.ensures.good ∙ c.if-not-branch.false in
    let whole =
    lists_end (listed c.args.text.now) c.loop-names.names.items c.loop-names.number rest line c.loop-names.invariant.so_far is others left (nothing_left others c.in_default.len_below) good in
    subst (λ w. IsListed w (listing.Names c.put_line.new.names)) (sym whole) (c.in_ok-put_line.ensures.put ∙ sym (append-nil (with_line c.loop-names.names.items line)))

pub loop-names-preserved : goal.loop-names-preserved
loop-names-preserved c =
    let rest = c.loop-names.rest.now in
    let line = c.split_at.result.0.now in
    let others = c.split_at.result.1.now in
    let is : line ≡ take (line_len rest) rest = c.split_at.ensures.front ∙ ap (λ n. take n rest) c.line_len.ensures.value in
    let left : others ≡ drop (line_len rest) rest = c.split_at.ensures.back ∙ ap (λ n. drop n rest) c.line_len.ensures.value in
    let good : is_line line ≡ true = sym c.in_ok-put_line.ensures.good ∙ c.if-not-branch.false in
    let shorter : length others ≤ length rest = omega (arith, ap length left, length-drop (line_len rest) rest) in
    let some : 1 ≤ length others = omega (arith, c.in-len1-up.len_at_least) in
    record {
      so_far =
          lists_next (listed c.args.text.now) c.loop-names.names.items c.loop-names.number rest line c.loop-names.invariant.so_far is others left some good c.put_line.new.names.items c.in_ok-put_line.ensures.put;
      fits = omega (arith, c.loop-names.invariant.fits, length-take (length others - 1) (drop 1 others), shorter, some);
    }
