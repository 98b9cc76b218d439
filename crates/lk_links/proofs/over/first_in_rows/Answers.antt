use Rattle.std.proofs.Common.{◌≡◌, true, ⊎_elim, subst, sym}
use Rattle.std.proofs.lemmas.List.{take_all}
use Rattle.lk_sets.specs.Rows.{has}
use Rattle.lk_links.specs.Only.{OneHas}
use Rattle.lk_links.proofs.OverLemmas.{empty_row}
use Rattle.lk_links.proofs.SetLemmas.{some_more}
use Rattle.lk_links.proofs.over.first_in_rows.Goals as goal

pub loop-n-preserved : goal.loop-n-preserved
loop-n-preserved c = λ m found.
    ⊎_elim (c.loop-n.invariant m) (empty_row c.args.rows.now _ c.in_default.ensures.square c.in_default.ensures.next m)
    ((some_more (λ n. has c.args.rows.now n m ≡ true) c.args.labels.now c.loop-n.n-index 0 c.loop-n-test.true).0 found)

pub returns-clause-value : goal.returns-clause-value
returns-clause-value c = λ m found. c.loop-n.invariant m (subst (λ ids. OneHas c.args.rows.now ids m) (sym (take_all c.loop-n.n-index c.args.labels.now c.loop-n-test.false)) found)
