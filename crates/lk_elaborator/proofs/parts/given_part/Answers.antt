use Rattle.std.proofs.Common.{◌∙◌, sym, ap}
use Rattle.lk_typed.specs.Env.{ConvertedTo}
use Rattle.lk_elaborator.proofs.Growing.{known_type_stays, type_on}
use Rattle.lk_elaborator.proofs.parts.given_part.Goals as goal

pub returns-clause-role : goal.returns-clause-role
returns-clause-role c = λ r ready is.
    let old = c.args.walk.now in
    let new = c.conversion_at.new.walk in
    let grows = c.in_ok-conversion.ensures.grows in
    let known = c.in_ok-conversion.ensures.known in
    c.converted_part.ensures.role new.types r
    (known_type_stays old.types new.types grows.longer c.args.target.now known, is ∙ ap ConvertedTo (sym (type_on old new grows ready c.args.target.now known)))
