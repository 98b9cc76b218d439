use Rattle.lk_facts.proofs.PathClosing.{flow_closed}
use Rattle.lk_laws.proofs.paths.flow_is_closed.Goals as goal

pub returns : goal.returns
returns c = λ es global origin. flow_closed {origin = origin}
