use Rattle.std.proofs.Common.{sym, subst}
use Rattle.lk_lower_unit.proofs.Numbering.{more_points, numbers_if}
use Rattle.lk_lower_unit.specs.PointNumbers.{CountSources}
use Rattle.lk_lower_unit.proofs.points.number_points.Goals as goal

pub returns-clause-ok : goal.returns-clause-ok
returns-clause-ok c =
    numbers_if c.args.whole.now c.deref.result.now c.bases_of.result
    (subst (λ counts. CountSources c.args.whole.now.sources counts) (sym c.deref.ensures.value) (subst (λ sources. CountSources sources c.in_ok-counts.counts.items) c.list.ensures c.in_ok-counts.ensures)) c.bases_of.ensures.ok

pub returns-clause-many : goal.returns-clause-many
returns-clause-many c = λ is.
    more_points c.args.whole.now c.deref.result.now
    (subst (λ counts. CountSources c.args.whole.now.sources counts) (sym c.deref.ensures.value) (subst (λ sources. CountSources sources c.in_ok-counts.counts.items) c.list.ensures c.in_ok-counts.ensures)) (c.bases_of.ensures.many is)
