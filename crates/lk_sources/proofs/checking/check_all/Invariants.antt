use Rattle.std.proofs.Common.{◌≡◌, All, map}
use Rattle.lk_sources.specs.Accepting.{IsCheckedSource, units_of}
use Rattle.lk_sources.specs.Faults.{AreFaultless}
use Rattle.lk_sources.proofs.checking.check_all.Given as goal

-- the sources so far have these trees, which have no fault
abbrev pub invariant-loop-parsed : goal.invariant-loop-parsed
invariant-loop-parsed l =
    record {
      checked : All (IsCheckedSource l.externs) l.sources.items;
      units : units_of l.sources.items ≡ map (λ parsed. parsed.unit) l.yielded;
      faultless : AreFaultless l.externs (map (λ parsed. parsed.unit) l.yielded);
    }
