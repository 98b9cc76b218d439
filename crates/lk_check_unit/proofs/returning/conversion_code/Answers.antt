use Rattle.std.proofs.Common.{◌≡◌, Option, sym, subst}
use Rattle.std.specs.Prelude.{ℕ, option_map}
use Rattle.lk_typed.specs.Meaning.{meaning}
use Rattle.lk_check_decl.specs.Breaches.{told}
use Rattle.lk_check_unit.specs.Converting.{conversion_rules}
use Rattle.lk_check_unit.proofs.Returned.{conversion_told}
use Rattle.lk_check_unit.proofs.returning.conversion_code.Goals as goal

pub returns-in-Some : goal.returns-in-Some
returns-in-Some c = λ x is.
    subst (λ (r : Option ℕ). c.convert_code.result ≡ told (conversion_rules (option_map (meaning c.args.types.now) r) x)) (sym c.in-Some.is)
    (conversion_told c.args.types.now c.args.v.now (meaning c.args.types.now c.in-Some.t) c.convert_code.result c.convert_code.ensures x is)
