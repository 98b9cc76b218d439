use Rattle.lk_links.proofs.OverLemmas.{first_value}
use Rattle.lk_links.proofs.over.first_crossing.Goals as goal

pub returns-in-AsValue-clause-value : goal.returns-in-AsValue-clause-value
returns-in-AsValue-clause-value c =
    first_value c.args.facts.now.origins c.args.way.now c.in-AsValue.site c.args.x c.all.result.now c.cross-in-AsValue.result.now c.first_in_rows.result (cc) (cc) c.in-AsValue.is c.first_in_rows.ensures.value
