use Rattle.std.proofs.Common.{◌≡◌, drop}
use Rattle.std.specs.Prelude.{map}
use Rattle.lk_typed.specs.Codes.{least_code, lesser}
use Rattle.lk_typed.specs.Words.{codes_in}
use Rattle.lk_check_expr.specs.NameUses.{refused_in}
use Rattle.lk_check_expr.proofs.words.code_among.Given as goal

-- the codes so far come before those of the rows that are left
abbrev pub invariant-loop-row : goal.invariant-loop-row
invariant-loop-row l = lesser l.code (least_code (codes_in (map refused_in (drop l.row-index l.rows)) l.name)) ≡ least_code (codes_in (map refused_in l.rows) l.name)
