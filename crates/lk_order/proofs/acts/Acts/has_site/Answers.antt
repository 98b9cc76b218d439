use Rattle.std.proofs.Common.{◌↔◌, subst, sym}
use Rattle.std.specs.Bool.{IsTrue}
use Rattle.lk_order.specs.Acts.{basis_in, linear_in}
use Rattle.lk_order.specs.Asking.{OneIsThrough}
use Rattle.lk_order.proofs.SameLemmas.{site_through, site_value}
use Rattle.lk_order.proofs.acts.Acts.has_site.Goals as goal

pub returns-in-Some : goal.returns-in-Some
returns-in-Some c =
    let self = c.args.self.now in
    site_value (basis_in self) (linear_in self) self.into.now c.requires.into c.args.function _ (sym c.in-Some.ensures.value)

pub returns-in-None : goal.returns-in-None
returns-in-None c =
    let self = c.args.self.now in
    site_through (basis_in self) (linear_in self) self.into.now c.requires.into c.args.function c.some_through.result (sym c.in-None.ensures.value)
    (subst (λ links. IsTrue c.some_through.result ↔ OneIsThrough links) c.requires.links c.some_through.ensures)
