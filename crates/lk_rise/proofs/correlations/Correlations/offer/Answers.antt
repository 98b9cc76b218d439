use Rattle.std.proofs.Common.{sym, subst, inr}
use Rattle.std.proofs.lemmas.Option.{MatchOption-at_some}
use Rattle.lk_rise.specs.Tables.{IsLeft, IsWithin, Offered}
use Rattle.lk_rise.proofs.correlations.Correlations.offer.Goals as goal

pub returns-in_ok-insert-in-Some : goal.returns-in_ok-insert-in-Some
returns-in_ok-insert-in-Some c =
    let left = c.in-Some.left in
    let is_left = MatchOption-at_some (IsWithin c.args.self.now c.args.item c.args.set.now) (IsLeft c.args.self.now c.args.item c.args.set.now) left c.in-Some.is c.in_ok-left.ensures in
    subst (λ old. Offered old c.insert.new.self.entries c.args.item c.args.set.now c.contains_key-fewer.result) c.self.view_is
    (inr (
      record {
        left = left;
        is_left = subst (λ old. IsLeft old c.args.item c.args.set.now left) (sym c.self.view_is) is_left;
        is = c.in_ok-insert-in-Some.ensures.entries;
        found = λ other. c.in_ok-insert-in-Some.ensures.updates.0 other;
      },
      c.contains_key-fewer.ensures,
    ))
