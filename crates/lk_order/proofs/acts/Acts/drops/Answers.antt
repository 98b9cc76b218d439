use Rattle.std.proofs.Common.{◌↔◌, subst}
use Rattle.std.proofs.lemmas.Result.{IfOk-weaker}
use Rattle.std.specs.Bool.{IsTrue}
use Rattle.lk_order.specs.Acts.{basis_in, linear_in}
use Rattle.lk_order.specs.Same.{Same}
use Rattle.lk_order.proofs.LosingLemmas.{drops_all, drops_let}
use Rattle.lk_order.proofs.acts.Acts.drops.Goals as goal

pub returns-in-Some : goal.returns-in-Some
returns-in-Some c =
    let self = c.args.self.now in
    IfOk-weaker c.are_same.result _ _ (λ answer asked.
    drops_let (basis_in self) (linear_in self) c.args.point c.function.result c.args.x c.in-Some.mutex answer c.function.ensures.value c.in-Some.ensures.value
    (subst (λ m. IsTrue answer ↔ Same (basis_in self) (linear_in self) c.function.result c.args.x m) c.mutex.view_is asked))
    c.are_same.ensures

pub returns-in-None : goal.returns-in-None
returns-in-None c =
    let self = c.args.self.now in
    let same = drops_all (basis_in self) (linear_in self) c.args.point c.args.x c.in-None.ensures.value in
    IfOk-weaker c.all_drop.result _ _ (λ answer asked. (λ yes. same.0 (asked.0 yes), λ drops. asked.1 (same.1 drops))) c.all_drop.ensures
