use Rattle.std.proofs.Common.{◌∙◌, ap, subst}
use Rattle.lk_typed.specs.Env.{Env}
use Rattle.lk_typed.specs.Redeclared.{TagUse, tag_rules}
use Rattle.lk_typed.specs.Told.{struct_named}
use Rattle.lk_names.specs.Uses.{rules_use}
use Rattle.lk_found.specs.Begun.{begun_if_admitted}
use Rattle.lk_checker.proofs.NamedTypes.{named_put}
use Rattle.lk_checker.specs.Naming.{IsNamedType}
use Rattle.lk_checker.specs.Moves.{RecordsTag}
use Rattle.lk_checker.proofs.checker.Checker.struct_named.Goals as goal

pub returns-clause-put : goal.returns-clause-put
returns-clause-put c = λ env is.
    let old = c.args.self.now in
    let new = c.named_struct.new.self in
    let name = c.args.name.now in
    let grows = c.in_ok-t.ensures.grows in
    named_put old new env c.args.out.now c.put_breach.new.self c.put_type.new.self _ c.in_ok-breach.breach _ c.in_ok-t.t
    c.requires.ready.table_is grows.sound.ready.table_is grows.longer c.in_ok-t.ensures.known
    (c.in_ok-breach.ensures old.types env ∙ ap (λ (e : Env). tag_rules e (rules_use c.struct_use-wanted.result) name) is.scope ∙ ap (λ (u : TagUse). tag_rules env u name) c.struct_use-wanted.ensures)
    c.in_ok-put_breach.ensures (λ table told codes. c.put_type.ensures table told codes)
    (subst (λ (u : TagUse). IsNamedType new env c.in_ok-t.t (struct_named env u name)) c.struct_use-wanted.ensures (c.in_ok-t.ensures.named env is))

pub returns-clause-tag : goal.returns-clause-tag
returns-clause-tag c = λ env is.
    let name = c.args.name.now in
    subst (λ (u : TagUse). RecordsTag c.args.self.now c.named_struct.new.self env (begun_if_admitted env u name)) c.struct_use-wanted.ensures (c.in_ok-t.ensures.tag env is)
