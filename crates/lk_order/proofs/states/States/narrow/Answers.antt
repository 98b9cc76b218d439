use Rattle.std.proofs.Common.{◌≡◌, ℕ, true, refl}
use Rattle.std.proofs.lemmas.Option.{MatchOption-at_some}
use Rattle.lk_sets.specs.Ids.{has_id}
use Rattle.lk_held.specs.States.{holds, IsLess}
use Rattle.lk_held.proofs.StateLemmas.{narrowed}
use Rattle.lk_order.proofs.states.States.narrow.Goals as goal

pub returns-in-Some : goal.returns-in-Some
returns-in-Some c =
    narrowed (record { locks = c.args.self.now.locks; sets = c.args.self.now.sets }) _ c.args.point c.args.set.now c.in-Some.left c.requires.point refl refl
    (MatchOption-at_some ((x : ℕ) → holds (record { locks = c.args.self.now.locks; sets = c.args.self.now.sets }) c.args.point x ≡ true → has_id c.args.set.now x ≡ true) (IsLess (record { locks = c.args.self.now.locks; sets = c.args.self.now.sets }) c.args.point c.args.set.now) c.in-Some.left c.in-Some.is c.in_ok-left.ensures)
