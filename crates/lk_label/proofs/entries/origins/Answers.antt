use Rattle.std.proofs.Common.{◌≡◌, length, subst, sym, arith}
use Rattle.lk_label.specs.Gathering.{AreOriginsTo}
use Rattle.lk_label.proofs.NameLists.{no_origins, origins_all}
use Rattle.lk_label.proofs.entries.origins.Goals as goal

pub loop-r-init : goal.loop-r-init
loop-r-init c = subst (AreOriginsTo c.args.points.now 0) (sym c.new-found.ensures) (no_origins c.args.points.now)

pub returns : goal.returns
returns c =
    let all : c.loop-r.r ≡ length c.args.points.now.roots = omega (arith, c.loop-r-test.false, c.loop-r.auto.r-end, c.roots-r-end.ensures) in
    origins_all c.args.points.now c.loop-r.found (subst (λ n. AreOriginsTo c.args.points.now n c.loop-r.found) all c.loop-r.invariant)
