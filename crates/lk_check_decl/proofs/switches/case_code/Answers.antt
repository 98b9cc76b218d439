use Rattle.std.proofs.Common.{◌∙◌, sym, ap}
use Rattle.lk_typed.specs.StatementRules as spec
use Rattle.lk_check_decl.specs.Breaches.{told}
use Rattle.lk_check_decl.proofs.Told.{both_told}
use Rattle.lk_check_decl.proofs.switches.case_code.Goals as goal

pub returns : goal.returns
returns c = λ around same.
    both_told (spec.constant_rules c.args.value) (spec.place_rules around.switch c.args.value) c.constant_code-constant.ensures
    (c.place_code-place.ensures ∙ ap (λ switch. told (spec.place_rules switch c.args.value)) (sym same)) c.lesser.ensures
