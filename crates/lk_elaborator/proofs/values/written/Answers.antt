use Rattle.std.proofs.Common.{refl}
use Rattle.lk_elaborator.specs.Leading.{Grows}
use Rattle.lk_elaborator.proofs.Conversions.{made_written}
use Rattle.lk_elaborator.proofs.Growing.{leads_before, true_on}
use Rattle.lk_elaborator.proofs.Numbers.{means_led}
use Rattle.lk_elaborator.proofs.values.written.Goals as goal

pub returns-clause-value : goal.returns-clause-value
returns-clause-value c = λ p same true_of tables leads folded t is.
    let old = c.args.walk.now in
    let middle = record old { types = c.listed.new.types } in
    let grows : Grows old middle = record { longer = c.in_ok-ty.ensures.longer; members = c.in_ok-ty.ensures.members; ready = c.in_ok-ty.ensures.ready; same = refl } in
    let there = true_on old middle grows p true_of in
    let first = leads_before middle c.valued_at.new.walk tables c.in_ok-valued.ensures.grows leads in
    let means = means_led middle tables there.ready first c.in_ok-ty.ty _ c.in_ok-ty.ensures.known c.in_ok-ty.ensures.means in
    made_written tables folded p _ c.in_ok-ty.ty _ t refl means (c.in_ok-valued.ensures.value p same there tables leads folded) is
