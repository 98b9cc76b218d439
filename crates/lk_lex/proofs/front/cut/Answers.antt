use Rattle.std.proofs.Common.{refl}
use Rattle.lk_lex.specs.Front.{cut, cut_by}
use Rattle.lk_lex.proofs.Firsts.{by_first, empty_first}
use Rattle.lk_lex.proofs.front.cut.Goals as goal

pub returns-in-Some-clause-value : goal.returns-in-Some-clause-value
unfolding cut
returns-in-Some-clause-value c =
    rw (← by_first (cut c.args.fresh) (cut_by c.args.fresh) (λ x xs. refl) c.args.bytes.now c.in-Some.first.now c.in-Some.ensures.value) c.cut_by.ensures.value

pub returns-in-None-clause-value : goal.returns-in-None-clause-value
unfolding cut
returns-in-None-clause-value c = rw (empty_first c.args.bytes.now c.in-None.ensures.value) refl
