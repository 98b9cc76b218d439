use Rattle.std.proofs.Common.{subst}
use Rattle.std.proofs.lemmas.Result.{IfOk-weaker}
use Rattle.lk_facts.specs.Flow.{Over}
use Rattle.lk_links.specs.Only.{IsOneIfOnly}
use Rattle.lk_order.specs.Acts.{basis_in, linear_in}
use Rattle.lk_order.proofs.LosingLemmas.{not_over, same_over}
use Rattle.lk_order.proofs.acts.Acts.is_same_over.Goals as goal

pub returns-in-Some : goal.returns-in-Some
returns-in-Some c =
    let self = c.args.self.now in
    let basis = basis_in self in
    let found = subst (IsOneIfOnly (Over basis.flow c.args.link.now.way c.args.y)) c.in-Some.is c.in_ok-outside.ensures.value in
    IfOk-weaker c.are_same.result _ _ (λ answer asked. same_over basis (linear_in self) c.args.link.now.above c.args.x c.args.y c.in-Some.outside c.args.link.now.way answer found asked) c.are_same.ensures

pub returns-in-None : goal.returns-in-None
returns-in-None c =
    let self = c.args.self.now in
    let basis = basis_in self in
    let found = subst (IsOneIfOnly (Over basis.flow c.args.link.now.way c.args.y)) c.in-None.is c.in_ok-outside.ensures.value in
    not_over basis (linear_in self) c.args.link.now.above c.args.x c.args.y c.args.link.now.way found
