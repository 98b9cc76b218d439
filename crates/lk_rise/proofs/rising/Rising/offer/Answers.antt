use Rattle.std.proofs.Common.{◌≡◌, Bool, true, List, sym, subst}
use Rattle.lk_rise.specs.Correlations.{has_item}
use Rattle.lk_rise.specs.Tables.{setting, HasWithin, Offered, Works}
use Rattle.lk_rise.specs.declared.correlations.Correlation.{Correlation}
use Rattle.lk_rise.proofs.WorkLemmas.{offered_fewer, offered_none}
use Rattle.lk_rise.proofs.rising.Rising.offer.Goals as goal

pub returns-in_ok-push : goal.returns-in_ok-push
returns-in_ok-push c =
    let s = setting c.args.self.now in
    let item = c.args.item in
    let set = c.args.set.now in
    subst (λ (again : List Correlation). Works s (λ entries. has_item entries item ≡ true) (HasWithin item set) c.args.table.now c.offer.new.self c.args.again.now.items again) (sym c.in_ok-push.ensures.items)
    (offered_fewer s c.args.table.now c.offer.new.self c.args.again.now.items item set c.requires
    (subst (λ (fewer : Bool). Offered c.args.table.now c.offer.new.self item set fewer) c.if-branch.true c.in_ok-offer.ensures))

pub returns-else-branch : goal.returns-else-branch
returns-else-branch c =
    let s = setting c.args.self.now in
    let item = c.args.item in
    let set = c.args.set.now in
    offered_none s c.args.table.now c.offer.new.self c.args.again.now.items item set c.requires
    (subst (λ (fewer : Bool). Offered c.args.table.now c.offer.new.self item set fewer) c.if-branch.false c.in_ok-offer.ensures)
