use Rattle.std.proofs.Common.{◌≡◌, true, ⊎_elim, subst, sym, refl}
use Rattle.std.proofs.lemmas.Bool.{both_ways, false≢true}
use Rattle.std.proofs.lemmas.List.{take_all}
use Rattle.lk_sets.specs.Rows.{has}
use Rattle.lk_links.specs.Only.{OneHas}
use Rattle.lk_links.proofs.SetLemmas.{has_id-at, some_more}
use Rattle.lk_links.proofs.over.have_no_other.Goals as goal

pub returns-then-not-has_no_other : goal.returns-then-not-has_no_other
returns-then-not-has_no_other c = (
  λ yes. absurd (false≢true yes),
  λ only. absurd (both_ways c.has_no_other.result c.if-not-has_no_other.true (c.has_no_other.ensures.1 (λ o there. only o (_, has_id-at c.args.labels.now c.loop-n.n-index 0 c.loop-n-test.true, there)))),
)

pub loop-n-preserved : goal.loop-n-preserved
loop-n-preserved c = λ o found.
    ⊎_elim (c.loop-n.invariant o) (c.has_no_other.ensures.0 c.if-not-has_no_other.false o)
    ((some_more (λ n. has c.args.rows.now n o ≡ true) c.args.labels.now c.loop-n.n-index 0 c.loop-n-test.true).0 found)

pub returns : goal.returns
returns c = (λ yes o found. c.loop-n.invariant o (subst (λ ids. OneHas c.args.rows.now ids o) (sym (take_all c.loop-n.n-index c.args.labels.now c.loop-n-test.false)) found), λ only. refl)
