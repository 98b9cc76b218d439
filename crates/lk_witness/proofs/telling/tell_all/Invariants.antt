use Rattle.std.proofs.Common.{◌≤◌, take}
use Rattle.lk_witness.specs.Searched.{AreTold}
use Rattle.lk_witness.proofs.telling.tell_all.Given as goal

-- the locations so far are told
abbrev pub invariant-loop-at : goal.invariant-loop-at
invariant-loop-at l =
    record {
      told : AreTold l.files l.points (take l.at l.suspects) l.told.text.items l.told.shown;
      few : l.told.shown ≤ l.at;
    }
