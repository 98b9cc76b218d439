use Rattle.lk_laws.proofs.OwnSite.{own_site}
use Rattle.lk_laws.proofs.flow.functions_have_sites.Goals as goal

pub returns : goal.returns
returns c = own_site
