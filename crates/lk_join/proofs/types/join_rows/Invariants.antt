use Rattle.lk_types.specs.Building.{IsLonger}
use Rattle.lk_join.specs.Completing.{HasMembers}
use Rattle.lk_join.specs.Forms.{AreRowsOf}
use Rattle.lk_join.specs.Large.{AreAllAsLarge}
use Rattle.lk_join.proofs.types.join_rows.Given as goal

-- the types of the first sources are put, and all structs that are complete are as large as in each source
abbrev pub invariant-loop-number : goal.invariant-loop-number
invariant-loop-number l =
    IsLonger l.fn.table l.table × AreRowsOf l.units l.numbers.rows l.table l.rows.items l.number × HasMembers l.units l.numbers.rows l.rows.items l.table
    × AreAllAsLarge l.units l.numbers.rows l.table
