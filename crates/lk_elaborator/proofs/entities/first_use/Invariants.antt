use Rattle.std.proofs.Common.{take}
use Rattle.lk_elaborator.specs.Gathering.{IsFirstOf}
use Rattle.lk_elaborator.proofs.entities.first_use.Given as goal

abbrev pub invariant-loop-declaration : goal.invariant-loop-declaration
invariant-loop-declaration l = IsFirstOf l.records.first_uses (take l.declaration-index l.declarations) l.first
