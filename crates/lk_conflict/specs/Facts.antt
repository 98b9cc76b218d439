-- What racing items rest on.
use Rattle.std.specs.Prelude.{ℕ, List}
use Rattle.lk_facts.specs.Analysis.{held_table}
use Rattle.lk_facts.specs.LockSets.{LockSets}
use Rattle.lk_facts.specs.Racing.{Setting}
use Rattle.lk_rise.specs.Correlations.{has_of, locks_of}
use Rattle.lk_rise.specs.declared.correlations.Correlation.{Correlation}
use Rattle.lk_sets.specs.Rows.{Rows, has}

-- what races rest on, as the parts say it
abbrev pub setting_of : Rows → List (Correlation × List ℕ) → LockSets → Setting
setting_of after items held =
    record { after = has after; has = has_of items; held = held_table held; locks = locks_of items }
