use Rattle.lk_facts.proofs.TableLemmas.{flow_is_closed}
use Rattle.lk_laws.proofs.paths.exact_flow_is_closed.Goals as goal

pub returns : goal.returns
returns c = flow_is_closed
