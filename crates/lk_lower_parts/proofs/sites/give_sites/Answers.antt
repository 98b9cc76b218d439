use Rattle.std.proofs.Common.{rules}
use Rattle.lk_lower_parts.proofs.Sited.{have_sites}
use Rattle.lk_lower_parts.proofs.sites.give_sites.Goals as goal

pub returns : goal.returns
returns c = have_sites c.args.points.now.items c.give_points.new.points.items c.args.functions.now.items c.give_functions.new.functions.items c.deref-2.result.now c.in_ok-next.next c.give_functions.result
    (search rules) (search rules) c.in_ok-next.ensures.points c.in_ok-next.ensures.behind c.give_functions.ensures.functions c.give_functions.ensures.behind
