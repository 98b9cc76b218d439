use Rattle.std.proofs.Common.{◌≡◌, ◌∙◌, ◌<◌, ◌++◌, ℕ, List, [], ◌∷◌, Option, Some, IfSome, ap, length, refl, subst, sym}
use Rattle.std.specs.List.{slice_get}
use Rattle.std.specs.Option.{option_copied}
use Rattle.lk_typed.specs.Env.{Env, Begins, extend}
use Rattle.lk_typed.specs.Told.{steps, struct_meant, tag_found}
use Rattle.lk_typed.specs.declared.members.Members.{Members}
use Rattle.lk_typed.specs.declared.members.Members.TheVariants.{NotYet, Begun}
use Rattle.lk_names.specs.Uses.{rules_use}
use Rattle.lk_found.proofs.Completing.{begun_before, last_is, may_begin, open_is}
use Rattle.lk_checker.proofs.Completing.{as_many, known_meant, new_meant}
use Rattle.lk_checker.specs.Moves.{env_of}
use Rattle.lk_checker.proofs.Tags.{tag_new, tag_none, tag_still}
use Rattle.lk_checker.proofs.checker.Checker.struct_for.Goals as goal

pub returns-in-Some-clause-known : goal.returns-in-Some-clause-known
returns-in-Some-clause-known c =
    let old = c.args.self.now in
    subst (λ (found : Option ℕ). IfSome found (λ s. s < length old.names.structs)) c.in-Some.is (c.known_struct.ensures.known old.types c.requires.scope)

pub returns-in-Some-clause-may_begin : goal.returns-in-Some-clause-may_begin
returns-in-Some-clause-may_begin c = λ rest may.
    let old = c.args.self.now in
    let e = env_of old rest in
    let within = subst (λ (found : Option ℕ). IfSome found (λ s. s < length old.names.structs)) c.in-Some.is (c.known_struct.ensures.known old.types c.requires.scope) in
    open_is old.types old.names.structs c.in-Some.s within
    (may_begin e (tag_found e (rules_use c.args.wanted) (option_copied c.args.tag)) c.in-Some.s (sym (c.known_struct.ensures.value old.types rest) ∙ c.in-Some.is) may)

pub returns-in-Some-clause-means : goal.returns-in-Some-clause-means
returns-in-Some-clause-means c = λ env is.
    let old = c.args.self.now in
    let tag = option_copied c.args.tag in
    known_meant old env tag (struct_meant (tag_found env (rules_use c.args.wanted) tag)) c.in-Some.s
    (ap (λ (e : Env). struct_meant (tag_found e (rules_use c.args.wanted) tag)) (sym is.scope) ∙ sym (c.known_struct.ensures.value old.types env) ∙ c.in-Some.is) is

pub returns-in_ok-put_tag-in-None-clause-begun : goal.returns-in_ok-put_tag-in-None-clause-begun
returns-in_ok-put_tag-in-None-clause-begun c = λ t got.
    let structs = c.args.self.now.names.structs in
    let same = c.in_ok-put_tag-in-None.ensures.structs ∙ c.in_ok-s-in-None.ensures.structs in
    subst (λ (xs : List Members). slice_get xs t ≡ Some Begun) (sym same) (begun_before structs (NotYet ∷ []) t got)

pub returns-in_ok-put_tag-in-None-clause-may_begin : goal.returns-in_ok-put_tag-in-None-clause-may_begin
returns-in_ok-put_tag-in-None-clause-may_begin c = λ rest may.
    let structs = c.args.self.now.names.structs in
    let same = c.in_ok-put_tag-in-None.ensures.structs ∙ c.in_ok-s-in-None.ensures.structs in
    ap (λ (xs : List Members). slice_get xs c.in_ok-s-in-None.s) same ∙ ap (slice_get (structs ++ NotYet ∷ [])) c.in_ok-s-in-None.ensures.number ∙ last_is structs NotYet

pub returns-in_ok-put_tag-in-None-clause-means : goal.returns-in_ok-put_tag-in-None-clause-means
returns-in_ok-put_tag-in-None-clause-means c = λ env is.
    let old = c.args.self.now in
    let tag = option_copied c.args.tag in
    new_meant c.put_tag.new.self env tag (struct_meant (tag_found env (rules_use c.args.wanted) tag)) c.in_ok-s-in-None.s
    (ap (λ (e : Env). struct_meant (tag_found e (rules_use c.args.wanted) tag)) (sym is.scope) ∙ sym (c.known_struct.ensures.value old.types env) ∙ c.in-None.is)
    (c.in_ok-s-in-None.ensures.number ∙ sym (as_many old env is))
    (c.in_ok-put_tag-in-None.ensures.behind (extend env (steps (Begins ∷ []))) (c.in_ok-s-in-None.ensures.behind env is))

pub returns-in-Some-clause-tag : goal.returns-in-Some-clause-tag
returns-in-Some-clause-tag c = λ env is.
    let old = c.args.self.now in
    let tag = option_copied c.args.tag in
    tag_none old old env (struct_meant (tag_found env (rules_use c.args.wanted) tag)) tag c.in-Some.s
    (ap (λ (e : Env). struct_meant (tag_found e (rules_use c.args.wanted) tag)) (sym is.scope) ∙ sym (c.known_struct.ensures.value old.types env) ∙ c.in-Some.is) refl

pub returns-in_ok-put_tag-in-None-clause-tag : goal.returns-in_ok-put_tag-in-None-clause-tag
returns-in_ok-put_tag-in-None-clause-tag c = λ env is.
    let old = c.args.self.now in
    let new = c.put_tag.new.self in
    let tag = option_copied c.args.tag in
    tag_new old new env (struct_meant (tag_found env (rules_use c.args.wanted) tag)) tag
    (ap (λ (e : Env). struct_meant (tag_found e (rules_use c.args.wanted) tag)) (sym is.scope) ∙ sym (c.known_struct.ensures.value old.types env) ∙ c.in-None.is)
    (tag_still old c.new_struct.new.self new env (Some tag) c.in_ok-put_tag-in-None.ensures.grows.records (c.in_ok-s-in-None.ensures.tag env is))
