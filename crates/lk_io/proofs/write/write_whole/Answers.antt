use Rattle.std.proofs.Common.{◌<◌, length, arith, ◌∙◌}
use Rattle.std.proofs.lemmas.Bool.Decides.{nat_tests}
use Rattle.std.proofs.lemmas.Result.{err_from_is_err_and}
use Rattle.lk_io.proofs.Writing.{Went-more, Went-part}
use Rattle.lk_io.proofs.write.write_whole.Goals as goal

pub returns-in_err-count-clause-err : goal.returns-in_err-count-clause-err
returns-in_err-count-clause-err g c =
    let failed = err_from_is_err_and c.from_residual.result c.from_residual.ensures.1 in
    let some : 0 < length c.loop-rest.rest.now = grind (arith, nat_tests) in
    rw failed.1 (Went-part c.loop-rest.invariant.0 c.in_err-count.ensures.err some)

pub loop-rest-preserved : goal.loop-rest-preserved
loop-rest-preserved g c = (
  rw c.split_at.ensures.back (Went-more c.in_ok-count.count c.loop-rest.invariant.0 c.in_ok-count.ensures.ok),
  c.in_ok-count.ensures.counts.calm ∙ c.loop-rest.invariant.1,
)
