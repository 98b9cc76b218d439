use Rattle.lk_elaborator.proofs.Numbers.{means_led}
use Rattle.lk_elab_expr.proofs.Assigned.{stepped}
use Rattle.lk_elab_expr.proofs.sides.step.Goals as goal

pub returns-clause-one : goal.returns-clause-one
returns-clause-one c = λ p i form same own true_of tables leads folded.
    let has = c.in_ok-at.ensures.means i same true_of in
    let means = means_led c.stepped_at.new.walk tables (c.in_ok-at.ensures.grows.ready own.ready) leads c.in_ok-at.at _ has.known has.means in
    record {
      role = c.itself_part.ensures.role _ _;
      gives = λ x is t makes. stepped tables folded p i c.args.op has.typing c.in_ok-at.at x t c.args.change form has.found (c.itself_part.ensures.typed tables folded i x is) means makes;
    }
