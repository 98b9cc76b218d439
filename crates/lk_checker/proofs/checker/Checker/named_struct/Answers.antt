use Rattle.std.proofs.Common.{◌∙◌, Some, ap, refl, subst, sym}
use Rattle.lk_typed.specs.Env.{Env}
use Rattle.lk_typed.specs.Redeclared.{may_use, tag_meant}
use Rattle.lk_typed.specs.Told.{struct_meant}
use Rattle.lk_names.specs.Uses.{rules_use}
use Rattle.lk_found.proofs.Tags.{naming_admitted, naming_refused}
use Rattle.lk_found.specs.Begun.{begun_where}
use Rattle.lk_checker.proofs.NamedTypes.{struct_admitted, struct_refused}
use Rattle.lk_checker.proofs.States.{stays_in}
use Rattle.lk_checker.proofs.Tags.{tag_still}
use Rattle.lk_checker.specs.Moves.{RecordsTag}
use Rattle.lk_checker.proofs.checker.Checker.named_struct.Goals as goal

pub returns-then-not-admits-clause-named : goal.returns-then-not-admits-clause-named
returns-then-not-admits-clause-named c = λ env is.
    let old = c.args.self.now in
    let wanted = rules_use c.args.wanted in
    struct_refused old env wanted c.args.name.now
    (ap (λ (e : Env). may_use e (tag_meant e wanted c.args.name.now) wanted) (sym is.scope) ∙ sym (c.admits.ensures old.types env) ∙ c.if-not-admits.true) is

pub returns-clause-named : goal.returns-clause-named
returns-clause-named c = λ env is.
    let old = c.args.self.now in
    let wanted = rules_use c.args.wanted in
    let means = c.in_ok-s.ensures.means env is in
    struct_admitted c.struct_type.new.self env wanted c.args.name.now
    (ap (λ (e : Env). may_use e (tag_meant e wanted c.args.name.now) wanted) (sym is.scope) ∙ sym (c.admits.ensures old.types env) ∙ c.if-not-admits.false)
    c.in_ok-s.s c.in_ok-t.t means.number c.in_ok-t.ensures.means
    (stays_in c.struct_for.new.self c.struct_type.new.self c.in_ok-s.ensures.grows.sound c.in_ok-t.ensures.grows.longer c.in_ok-t.ensures.names c.in_ok-t.ensures.grows.outside _ means.behind)

pub returns-then-not-admits-clause-tag : goal.returns-then-not-admits-clause-tag
returns-then-not-admits-clause-tag c = λ env is.
    let old = c.args.self.now in
    let wanted = rules_use c.args.wanted in
    subst (RecordsTag old old env) (sym (naming_refused env wanted c.args.name.now
    (ap (λ (e : Env). may_use e (tag_meant e wanted c.args.name.now) wanted) (sym is.scope) ∙ sym (c.admits.ensures old.types env) ∙ c.if-not-admits.true))) refl

pub returns-clause-tag : goal.returns-clause-tag
returns-clause-tag c = λ env is.
    let old = c.args.self.now in
    let new = c.struct_type.new.self in
    let wanted = rules_use c.args.wanted in
    let name = c.args.name.now in
    subst (RecordsTag old new env) (sym (naming_admitted env wanted name
    (ap (λ (e : Env). may_use e (tag_meant e wanted name) wanted) (sym is.scope) ∙ sym (c.admits.ensures old.types env) ∙ c.if-not-admits.false)))
    (tag_still old c.struct_for.new.self new env (begun_where (struct_meant (tag_meant env wanted name)) (Some name)) c.in_ok-t.ensures.grows.records (c.in_ok-s.ensures.tag env is))
