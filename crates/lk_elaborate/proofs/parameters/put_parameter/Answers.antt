use Rattle.std.proofs.Common.{◌∙◌, ap, sym}
use Rattle.std.specs.Option.{option_map}
use Rattle.lk_found.specs.Named.{name_in}
use Rattle.lk_elaborate.proofs.ParametersMore.{named_put, unnamed_put}
use Rattle.lk_elaborate.proofs.parameters.put_parameter.Goals as goal

pub returns-in_ok-put_named-in-Some : goal.returns-in_ok-put_named-in-Some
returns-in_ok-put_named-in-Some c =
    named_put c.args.walk.now c.put_named.new.walk c.args.p.now c.args.ty (name_in c.in-Some.named) (sym (ap (option_map name_in) c.in-Some.is) ∙ c.name_of.ensures) c.in_ok-put_named-in-Some.ensures

pub returns-in_ok-put_unnamed-in-None : goal.returns-in_ok-put_unnamed-in-None
returns-in_ok-put_unnamed-in-None c =
    unnamed_put c.args.walk.now c.put_unnamed.new.walk c.args.p.now c.args.ty (sym (ap (option_map name_in) c.in-None.is) ∙ c.name_of.ensures) c.in_ok-put_unnamed-in-None.ensures
