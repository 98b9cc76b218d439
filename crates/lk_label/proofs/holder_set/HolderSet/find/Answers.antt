use Rattle.std.proofs.Common.{subst}
use Rattle.lk_facts.proofs.Numbers.{number_of}
use Rattle.lk_facts.proofs.Same.{same_holder, holder_itself}
use Rattle.lk_facts.specs.Places.{IsNumberOf}
use Rattle.lk_label.proofs.holder_set.HolderSet.find.Goals as goal

pub returns : goal.returns
returns c =
    subst (λ xs. IsNumberOf xs c.args.holder c.get_index_of.result) c.self.view_is
    (number_of _ same_holder holder_itself _ _ c.get_index_of.result c.get_index_of.ensures.index c.get_index_of.ensures.found)
