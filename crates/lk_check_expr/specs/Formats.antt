-- Where a byte of a format stands, in the words of the rules.
use Rattle.lk_typed.specs.Calls as spec
use Rattle.lk_check_expr.specs.declared.formats.Scanned.{Scanned}
use Rattle.lk_check_expr.specs.declared.formats.Scanned.TheVariants.{Plain, BehindPercent, BehindFlags}

abbrev pub scanned_in : Scanned → spec.Scanned
scanned_in Plain = spec.Plain
scanned_in BehindPercent = spec.BehindPercent
scanned_in BehindFlags = spec.BehindFlags
