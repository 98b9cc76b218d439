use Rattle.std.proofs.Common.{◌≡◌, sym, subst}
use Rattle.lk_link.specs.Clashes.{HaveGained, IsMissingHere}
use Rattle.lk_link.proofs.Gaining.{gained_none, gained_some}
use Rattle.lk_link.proofs.missing.push_missing_here.Goals as goal

pub returns-in_ok-push-in-Some : goal.returns-in_ok-push-in-Some
returns-in_ok-push-in-Some c =
    subst (λ new. HaveGained c.args.clashes.now.items new (λ clash. (clash.source ≡ c.args.source) × IsMissingHere c.args.entity.now clash)) (sym c.in_ok-push-in-Some.ensures.items)
    (gained_some c.args.source c.args.entity.now c.in_ok-clash.field-0 c.in_ok-clash.ensures c.args.clashes.now.items c.in-Some.clash c.in-Some.is)

pub returns-in-None : goal.returns-in-None
returns-in-None c = gained_none c.args.source c.args.entity.now c.in_ok-clash.field-0 c.in_ok-clash.ensures c.args.clashes.now.items c.in-None.is
