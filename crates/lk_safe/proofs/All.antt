-- Soundness of locks and of races, with no premise left.
use Rattle.lk_safe.proofs.CountsReached.{reached_is_counted}
use Rattle.lk_safe.proofs.Locks.{locks_are_held}
use Rattle.lk_safe.proofs.Moving.{steps_move_trails}
use Rattle.lk_safe.proofs.OneCell.{linear_is_one}
use Rattle.lk_safe.proofs.Owning.{steps_move_owners}
use Rattle.lk_safe.proofs.Races.{races_are_found}
use Rattle.lk_safe.proofs.Reaching.{steps_keep_safe, reached_is_safe}
use Rattle.lk_safe.proofs.Starting.{start_is_counted, start_is_safe}
use Rattle.lk_safe.proofs.Verdicts.{races_are_suspect, tables_closed}
use Rattle.lk_facts.proofs.TableLemmas.{flow_is_closed}
use Rattle.lk_safe.specs.Soundness.{LocksAreHeld, RacesAreFound, LinearIsOne, RacesAreSuspect, VerdictsAreSafe, VerdictsFindRaces, tables_behind}
use Rattle.lk_safe.specs.Steps.{IsFollowed, StartIsSafe, StepsKeepSafe, ReachedIsSafe}
use Rattle.lk_trails.proofs.Counting.{counts_are_kept}
use Rattle.lk_trails.proofs.Holding.{held_is_kept}
use Rattle.lk_trails.proofs.Linking.{linked_own}
use Rattle.lk_trails.proofs.Meaning.{held_stays, held_begins}
use Rattle.lk_trails.proofs.Pasts.{pasts_are_kept}
use Rattle.lk_trails.proofs.RacesRise.{races_rise}

-- the invariant holds at the start
pub start_safe : StartIsSafe
start_safe = start_is_safe held_begins

-- each step keeps it
pub steps_safe : StepsKeepSafe
steps_safe = steps_keep_safe steps_move_trails steps_move_owners linked_own held_stays held_begins held_is_kept pasts_are_kept counts_are_kept

-- each state that is reached has it
pub reached_safe : ReachedIsSafe
reached_safe = reached_is_safe start_safe steps_safe

-- a thread owns what the lock sets have at its point
pub locks_held : LocksAreHeld
locks_held = locks_are_held reached_safe

-- two threads that race have racing items of main
pub races_found : RacesAreFound
races_found = races_are_found reached_safe races_rise

-- a linear lock place has one mutex
pub linear_one : LinearIsOne
linear_one = linear_is_one (reached_is_counted counts_are_kept steps_move_trails start_is_counted)

-- no state that is reached has a race at a location that isn't called suspect
pub races_suspect : RacesAreSuspect
races_suspect = races_are_suspect races_found linear_one

-- so it is with the verdicts of a program that was lowered
pub verdicts_safe : VerdictsAreSafe
verdicts_safe basis es analysed flow verdicts are = races_suspect basis es (record { analysed = analysed; closed = flow_is_closed es basis.labels basis.flow flow }) verdicts are

-- and each race is found by the tables from which they follow
pub verdicts_find : VerdictsFindRaces
verdicts_find basis es analysed flow verdicts are s reached cell race o located =
    let followed : IsFollowed basis es = record { analysed = analysed; closed = flow_is_closed es basis.labels basis.flow flow } in
    let both = races_found basis es followed (tables_behind basis verdicts are) (tables_closed basis es followed verdicts are) s reached cell race o located in
    record {
      first = both.0;
      second = both.1;
      one = λ q is. linear_one basis es followed s reached q ((are.is_linear q).0 is);
    }
