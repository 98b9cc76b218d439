use Rattle.std.proofs.Common.{◌++◌, ◌∷◌, [], ap, ◌∙◌}
use Rattle.lk_meaning.specs.After as spec
use Rattle.lk_meaning.proofs.Lists.{begun_is}
use Rattle.lk_meaning.proofs.applying.begin_thread.Goals as goal

pub returns-in-Ok-clause-ok : goal.returns-in-Ok-clause-ok
returns-in-Ok-clause-ok c = c.set_created.ensures
    ∙ begun_is c.args.threads.now c.push.new.self c.go_on.new.threads c.args.frame c.args.t c.len-created.result (spec.moved_on c.args.gives c.args.to) c.requires.0 c.len-created.ensures
    (c.in_ok-push.ensures.ok ∙ ap (λ y. c.args.threads.now ++ y ∷ []) c.new_thread-begun.ensures) c.in-Ok.ensures.ok
