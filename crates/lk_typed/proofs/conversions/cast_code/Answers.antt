use Rattle.std.proofs.Common.{◌∙◌, sym}
use Rattle.lk_typed.specs.Meaning.{meaning_of}
use Rattle.lk_typed.specs.Typings.{typing}
use Rattle.lk_typed.proofs.LeastCodes.{told_cast}
use Rattle.lk_typed.proofs.conversions.cast_code.Goals as goal

pub returns-else-is_void : goal.returns-else-is_void
returns-else-is_void c = λ p.
    let table = c.args.types.now in
    c.convert_code.ensures p ∙ told_cast (meaning_of table c.args.target.now) (typing table c.args.v.now p) (sym c.is_void.ensures ∙ c.if-is_void.false)
