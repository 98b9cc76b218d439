use Rattle.std.proofs.Common.{Some, subst, sym}
use Rattle.lk_flow.specs.Growing.{Adds, IsPair}
use Rattle.lk_flow.proofs.Finders.{pair_put}
use Rattle.lk_flow.proofs.found.Found.put.Goals as goal

pub returns-in_ok-insert-in-Some-Some : goal.returns-in_ok-insert-in-Some-Some
returns-in_ok-insert-in-Some-Some c =
    let mark = c.args.mark.now in
    let old = c.args.self.now in
    let new = c.insert.new.self in
    subst (λ from. Adds (IsPair from c.args.to mark) old new) (sym c.in-Some-Some.is-0) (subst (λ to. Adds (IsPair (Some c.in-Some-Some.from) to mark) old new) (sym c.in-Some-Some.is-1)
    (pair_put c.in-Some-Some.from c.in-Some-Some.to mark old new _ c.in_ok-insert-in-Some-Some.ensures))
