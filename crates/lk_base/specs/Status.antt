-- The exit status of each way in which a command ends.
use Rattle.std.specs.Prelude.{ℕ}
use Rattle.lk_base.specs.declared.status.Status.{Status}
use Rattle.lk_base.specs.declared.status.Status.TheVariants.{Clean, Suspects, Refused, Usage, ReadFault, WriteFault, NoMemory}

abbrev pub status_number : Status → ℕ
status_number Clean = 0
status_number Suspects = 1
status_number Refused = 2
status_number Usage = 3
status_number ReadFault = 4
status_number WriteFault = 5
status_number NoMemory = 6
