-- What races rest on, as the code has it. Only the private calls of this crate speak of it.
use Rattle.lk_facts.specs.Racing.{Setting}
use Rattle.lk_conflict.specs.Facts.{setting_of}
use Rattle.lk_conflict.specs.declared.grounds.Grounds.{Grounds}

abbrev pub setting : Grounds → Setting
setting grounds = setting_of grounds.after.now grounds.items.now.entries grounds.items.now.held
