use Rattle.std.proofs.Common.{◌∙◌, ap}
use Rattle.lk_typed.specs.Env.{Env, look_up}
use Rattle.lk_typed.specs.Told.{typedef_of}
use Rattle.lk_checker.proofs.NamedTypes.{typedef_put}
use Rattle.lk_checker.proofs.checker.Checker.typedef_named.Goals as goal

pub returns : goal.returns
returns c = λ env is.
    let checker = c.args.self.now in
    let types = checker.types in
    typedef_put checker env c.args.out.now c.put_type.new.self c.typedef_of-t.result _ is (c.typedef_of-t.ensures.known types (c.look_up.ensures.known types c.requires.scope))
    (c.typedef_of-t.ensures.named types ∙ ap typedef_of (c.look_up.ensures.env types env ∙ ap (λ (e : Env). look_up e c.args.name.now) is.scope))
    (λ table told codes. c.put_type.ensures table told codes)
