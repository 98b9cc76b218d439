use Rattle.std.proofs.Common.{◌∙◌, None, Some, ap}
use Rattle.std.specs.Prelude.{if◌then◌else◌}
use Rattle.lk_types.proofs.GrowLemmas.{longer_same}
use Rattle.lk_typed.specs.Env.{Env, look_up_tag}
use Rattle.lk_typed.specs.HolderRules.{enum_rules}
use Rattle.lk_typed.specs.Ty.{int}
use Rattle.lk_checker.proofs.NamedTypes.{enum_is, named_put}
use Rattle.lk_checker.proofs.checker.Checker.enum_named.Goals as goal

pub returns : goal.returns
returns c = λ env is.
    let checker = c.args.self.now in
    let types = checker.types in
    let name = c.args.name.now in
    let ready = c.requires.ready in
    let codes = c.in_ok-breach.ensures types env ∙ ap (λ (e : Env). enum_rules e name (look_up_tag e name)) is.scope in
    named_put checker checker env c.args.out.now c.put_breach.new.self c.put_type.new.self _ c.in_ok-breach.breach _ c.enum_type-t.result
    ready.table_is ready.table_is (longer_same types) (c.enum_type-t.ensures.known types ready) codes
    c.in_ok-put_breach.ensures (λ table told codes. c.put_type.ensures table told codes)
    (enum_is checker env name c.in_ok-breach.breach c.enum_type-t.result is codes (c.enum_type-t.ensures.named types ready ∙ ap (λ b. if b then None else Some int) c.is_some.ensures))
