use Rattle.std.proofs.Common.{◌∙◌, ap}
use Rattle.lk_sets.specs.Ids.{has_id}
use Rattle.lk_sets.proofs.Members.{is_ok-searched}
use Rattle.lk_sets.proofs.id_set.IdSet.has.Goals as goal

pub returns : goal.returns
returns c =
    c.is_ok.ensures.value
    ∙ is_ok-searched c.deref.result.now c.args.id c.binary_search.result (rw c.deref.ensures.value c.self.invariant) c.binary_search.ensures.position
    ∙ ap (λ ids. has_id ids c.args.id) (c.deref.ensures.value ∙ c.self.view_is)
