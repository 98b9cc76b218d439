use Rattle.std.proofs.Common.{◌∙◌, ap, subst, sym}
use Rattle.std.specs.Option.{option_copied}
use Rattle.lk_typed.specs.Env.{Env}
use Rattle.lk_typed.specs.Redeclared.{DefinesStruct, may_use}
use Rattle.lk_typed.specs.Told.{tag_found}
use Rattle.lk_found.proofs.Completing.{blank}
use Rattle.lk_found.proofs.Tags.{definition_admitted, definition_refused}
use Rattle.lk_checker.proofs.Completing.{admitted_meant, as_many, refused_meant}
use Rattle.lk_checker.specs.Moves.{RecordsTag}
use Rattle.lk_checker.proofs.checker.Checker.defined_struct.Goals as goal

pub returns-then-not-admits-clause-means : goal.returns-then-not-admits-clause-means
returns-then-not-admits-clause-means c = λ env is.
    let old = c.args.self.now in
    let tag = option_copied c.args.tag in
    refused_meant c.new_struct.new.self env tag c.in_ok-s.s
    (ap (λ (e : Env). may_use e (tag_found e DefinesStruct tag) DefinesStruct) (sym is.scope) ∙ sym (c.admits.ensures old.types env) ∙ c.if-not-admits.true)
    (c.in_ok-s.ensures.number ∙ sym (as_many old env is)) (c.in_ok-s.ensures.behind env is)

pub returns-clause-may_begin : goal.returns-clause-may_begin
returns-clause-may_begin c = c.in_ok-s-2.ensures.may_begin blank (sym (c.admits.ensures c.args.self.now.types blank) ∙ c.if-not-admits.false)

pub returns-clause-means : goal.returns-clause-means
returns-clause-means c = λ env is.
    let old = c.args.self.now in
    let tag = option_copied c.args.tag in
    admitted_meant c.struct_for.new.self env tag c.in_ok-s-2.s
    (ap (λ (e : Env). may_use e (tag_found e DefinesStruct tag) DefinesStruct) (sym is.scope) ∙ sym (c.admits.ensures old.types env) ∙ c.if-not-admits.false)
    (c.in_ok-s-2.ensures.means env is)

pub returns-then-not-admits-clause-tag : goal.returns-then-not-admits-clause-tag
returns-then-not-admits-clause-tag c = λ env is.
    let old = c.args.self.now in
    let tag = option_copied c.args.tag in
    subst (RecordsTag old c.new_struct.new.self env) (sym (definition_refused env tag
    (ap (λ (e : Env). may_use e (tag_found e DefinesStruct tag) DefinesStruct) (sym is.scope) ∙ sym (c.admits.ensures old.types env) ∙ c.if-not-admits.true)))
    (c.in_ok-s.ensures.tag env is)

pub returns-clause-tag : goal.returns-clause-tag
returns-clause-tag c = λ env is.
    let old = c.args.self.now in
    let tag = option_copied c.args.tag in
    subst (RecordsTag old c.struct_for.new.self env) (sym (definition_admitted env tag
    (ap (λ (e : Env). may_use e (tag_found e DefinesStruct tag) DefinesStruct) (sym is.scope) ∙ sym (c.admits.ensures old.types env) ∙ c.if-not-admits.false)))
    (c.in_ok-s-2.ensures.tag env is)
