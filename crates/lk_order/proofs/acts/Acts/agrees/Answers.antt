use Rattle.std.proofs.Common.{subst}
use Rattle.lk_order.specs.Acts.{basis_in, linear_in}
use Rattle.lk_order.specs.Asking.{IsAskedOutside}
use Rattle.lk_order.proofs.SameLemmas.{agrees_known, agrees_never, agrees_value}
use Rattle.lk_order.proofs.acts.Acts.agrees.Goals as goal

pub returns-in-AsValue : goal.returns-in-AsValue
returns-in-AsValue c =
    let self = c.args.self.now in
    agrees_value (basis_in self) (linear_in self) c.args.known.now.keys c.args.goal c.args.link.now _ c.in-AsValue.is

pub returns-in-Some : goal.returns-in-Some
returns-in-Some c =
    let self = c.args.self.now in
    let found = subst (IsAskedOutside (basis_in self) (linear_in self) c.args.goal c.args.link.now) c.in-Some.is c.in_ok-outside-in-Through.ensures.value in
    agrees_known (basis_in self) (linear_in self) c.args.known.now.keys c.args.goal c.in-Some.outside c.args.link.now _ c.is_known.result c.in-Through.is found c.is_known.ensures

pub returns-in-None : goal.returns-in-None
returns-in-None c =
    let self = c.args.self.now in
    let found = subst (IsAskedOutside (basis_in self) (linear_in self) c.args.goal c.args.link.now) c.in-None.is c.in_ok-outside-in-Through.ensures.value in
    agrees_never (basis_in self) (linear_in self) c.args.known.now.keys c.args.goal c.args.link.now _ c.in-Through.is found
