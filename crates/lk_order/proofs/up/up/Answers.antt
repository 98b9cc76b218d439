use Rattle.std.proofs.Common.{◌∙◌, length, get_or, ap, sym, subst}
use Rattle.lk_facts.specs.Flow.{IsOnly, Over}
use Rattle.lk_facts.specs.Origins.{flow_of}
use Rattle.lk_order.proofs.UpLemmas.{none_only, only_listed, over_one}
use Rattle.lk_order.proofs.up.up.Goals as goal

pub returns-then-count-ne1-clause-value : goal.returns-then-count-ne1-clause-value
returns-then-count-ne1-clause-value c =
    let flow = flow_of c.args.facts.now.origins in
    let lists = over_one flow c.args.way.now c.args.x c.in_ok-ids.ids c.in_ok-ids.ensures.exact in
    none_only (Over flow c.args.way.now c.args.x) c.in_ok-ids.ids lists (λ single. c.if-count-ne1.true (ap length c.ids-count.ensures.list ∙ single))

pub returns-clause-value : goal.returns-clause-value
returns-clause-value c =
    let flow = flow_of c.args.facts.now.origins in
    let lists = over_one flow c.args.way.now c.args.x c.in_ok-ids.ids c.in_ok-ids.ensures.exact in
    let only = only_listed (Over flow c.args.way.now c.args.x) c.in_ok-ids.ids lists (sym (ap length c.ids-count.ensures.list) ∙ c.if-count-ne1.false) in
    subst (IsOnly (Over flow c.args.way.now c.args.x)) (ap (λ ids. get_or ids 0 0) (sym c.ids-2.ensures.list)) only
