use Rattle.std.proofs.Common.{◌∙◌, ap}
use Rattle.std.specs.Prelude.{◌||◌, not}
use Rattle.lk_base.specs.declared.code.Code.TheVariants.{NotConstant}
use Rattle.lk_typed.specs.DeclaratorRules.{unless}
use Rattle.lk_check_decl.specs.Breaches.{told}
use Rattle.lk_check_decl.proofs.Told.{both_told}
use Rattle.lk_check_decl.proofs.initialisers.scalar_code.Goals as goal

pub returns : goal.returns
returns c = λ table x h.
    let static = c.args.target.now.is_static in
    both_told x.conversion (unless (not static || x.is_constant) NotConstant) h.conversion
    (c.constant_code-constant.ensures ∙ ap (λ constant. told (unless (not static || constant) NotConstant)) h.constant) c.lesser.ensures
