use Rattle.std.proofs.Common.{◌∙◌}
use Rattle.lk_meaning.proofs.Lists.{life_ended}
use Rattle.lk_meaning.proofs.changing.end_object.Goals as goal

pub returns-then-object-len : goal.returns-then-object-len
returns-then-object-len c =
    c.set.ensures ∙ life_ended c.args.objects.now c.replace-ending.new.self c.args.object c.no_object.result c.replace-ending.result c.replace-ending.ensures.out c.replace-ending.ensures.put
