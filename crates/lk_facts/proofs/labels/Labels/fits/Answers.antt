use Rattle.std.proofs.Common.{rules}
use Rattle.lk_facts.proofs.Numbers.{different}
use Rattle.lk_facts.proofs.Same.{same_name, name_itself}
use Rattle.lk_facts.proofs.labels.Labels.fits.Goals as goal

pub returns-then-entries : goal.returns-then-entries
returns-then-entries c =
    let names = different _ same_name name_itself _ c.len.ensures.unique in
    ((λ all. record { few = search rules; named = search rules; different = names; targets = c.are_labels.ensures.0 all }), (λ fits. c.are_labels.ensures.1 fits.targets))
