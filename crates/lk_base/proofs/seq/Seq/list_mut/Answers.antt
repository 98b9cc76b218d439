use Rattle.std.proofs.Common.{rules, refl, arith}
use Rattle.lk_base.specs.Lending.{written}
use Rattle.lk_base.proofs.seq.Seq.list_mut.Goals as goal

pub returns : goal.returns
unfolding written
returns g c =
    let as_long = c.self.inside.inner.ok.0 in
    let seen = c.self.view_is in
    let shown = c.as_mut_slice.ensures.value in
    ((refl, λ w. first_of (cc, grind arith, search rules)), record { writes_back = tt; value = first_of (search rules, cc, grind arith) })
