use Rattle.std.proofs.Common.{◌∙◌, sym, ap, subst}
use Rattle.lk_typed.specs.Labels.{labels}
use Rattle.lk_labels.specs.Leasts.{AreLabels, put_labels}
use Rattle.lk_labels.proofs.Putting.{are_labels}
use Rattle.lk_labels.proofs.collecting.labels_of.Goals as goal

pub returns : goal.returns
returns c =
    let found = labels c.args.s.now in
    let put = c.in_ok-put_labels.ensures ∙ ap (λ leasts. put_labels leasts found) c.new-found.ensures in
    subst (λ leasts. AreLabels leasts found) (sym put) (are_labels found)
