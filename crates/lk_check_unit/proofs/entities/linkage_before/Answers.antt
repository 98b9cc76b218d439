use Rattle.std.proofs.Common.{◌∙◌, sym, ap}
use Rattle.std.specs.Option.{option_copied, option_map}
use Rattle.lk_typed.specs.Env.{Declared}
use Rattle.lk_typed.specs.Names.{declared_in}
use Rattle.lk_check_unit.proofs.entities.linkage_before.Goals as goal

pub returns-in-Some : goal.returns-in-Some
returns-in-Some c = λ table rest.
    ap (option_map (λ (d : Declared). d.linkage)) (sym (c.look_up.ensures.env table rest) ∙ ap (λ o. option_map (declared_in table) (option_copied o)) c.in-Some.is)

pub returns-in-None : goal.returns-in-None
returns-in-None c = λ table rest.
    ap (option_map (λ (d : Declared). d.linkage)) (sym (c.look_up.ensures.env table rest) ∙ ap (λ o. option_map (declared_in table) (option_copied o)) c.in-None.is)
