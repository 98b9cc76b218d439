use Rattle.lk_links.proofs.OverLemmas.{only_call, only_value}
use Rattle.lk_links.proofs.over.is_only_crossing.Goals as goal

pub returns-in-Through : goal.returns-in-Through
returns-in-Through c = only_call c.args.facts.now.origins c.args.way.now c.in-Through.site c.args.x c.cross.result.now c.are_all.result c.args.m (cc) c.in-Through.is c.are_all.ensures

pub returns-in-AsValue : goal.returns-in-AsValue
returns-in-AsValue c =
    only_value c.args.facts.now.origins c.args.way.now c.in-AsValue.site c.args.x c.all.result.now c.cross-in-AsValue.result.now c.have_no_other.result c.args.m (cc) (cc) c.in-AsValue.is c.have_no_other.ensures
