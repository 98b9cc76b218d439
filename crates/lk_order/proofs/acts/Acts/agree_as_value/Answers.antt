use Rattle.std.proofs.Common.{sym, subst}
use Rattle.lk_facts.specs.declared.way.Way.TheVariants.{AsValue}
use Rattle.lk_order.specs.Acts.{basis_in, linear_in}
use Rattle.lk_order.specs.Asking.{AreFoundUp}
use Rattle.lk_order.proofs.SameLemmas.{agree_never, agree_value}
use Rattle.lk_order.proofs.acts.Acts.agree_as_value.Goals as goal

pub returns-in-Some-2 : goal.returns-in-Some-2
returns-in-Some-2 c =
    let self = c.args.self.now in
    let found = subst (AreFoundUp (basis_in self) (linear_in self) (AsValue c.in-Some.site) c.args.goal.first c.args.goal.second) c.in-Some-2.is c.in_ok-first.ensures.value in
    agree_value (basis_in self) (linear_in self) c.args.goal c.in-Some.site c.in-Some-2.first c.in-Some-2.second c.mean_one_lock.result (sym c.in-Some.ensures.value) found c.mean_one_lock.ensures

pub returns-in-None : goal.returns-in-None
returns-in-None c =
    let self = c.args.self.now in
    let found = subst (AreFoundUp (basis_in self) (linear_in self) (AsValue c.in-Some.site) c.args.goal.first c.args.goal.second) c.in-None.is c.in_ok-first.ensures.value in
    agree_never (basis_in self) (linear_in self) c.args.goal c.in-Some.site (sym c.in-Some.ensures.value) found
