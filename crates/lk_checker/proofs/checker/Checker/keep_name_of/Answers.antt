use Rattle.std.proofs.Common.{◌≡◌, ◌∙◌, false, map, sym, ap, subst, refl}
use Rattle.std.specs.Option.{option_map}
use Rattle.lk_typed.specs.Meaning.{meaning}
use Rattle.lk_typed.specs.MemberRules.{member_rules}
use Rattle.lk_typed.specs.Typings.{field_in}
use Rattle.lk_found.specs.MembersOf.{is_free}
use Rattle.lk_found.specs.Named.{name_in}
use Rattle.lk_found.specs.Findings.{mark_at}
use Rattle.lk_checker.proofs.KeepsAll.{one_each}
use Rattle.lk_checker.specs.MembersOf.{KeepsName}
use Rattle.lk_checker.specs.States.{kept_in}
use Rattle.lk_checker.proofs.checker.Checker.keep_name_of.Goals as goal

pub returns-in_ok-is_free-in-Some-clause-kept : goal.returns-in_ok-is_free-in-Some-clause-kept
returns-in_ok-is_free-in-Some-clause-kept c = λ env is.
    let old = c.args.self.now in
    let new = c.keep_member_name.new.self in
    let before = map (field_in old.types) c.args.before.now in
    let t = meaning old.types c.args.t in
    let named = c.in-Some.named in
    let name = sym (ap (option_map name_in) c.in-Some.is) ∙ c.declared_name.ensures in
    subst (λ name. KeepsName old new env before name t) name
    (one_each (kept_in old) (kept_in new) (mark_at named.at) (member_rules env before (name_in named).name t) (c.in_ok-is_free-in-Some.ensures.kept env is))

pub returns-in_ok-is_free-in-Some-clause-free : goal.returns-in_ok-is_free-in-Some-clause-free
returns-in_ok-is_free-in-Some-clause-free c = λ env is.
    let types = c.args.self.now.types in
    let name = sym (ap (option_map name_in) c.in-Some.is) ∙ c.declared_name.ensures in
    subst (λ name. c.in_ok-is_free-in-Some.is_free ≡ is_free env (map (field_in types) c.args.before.now) name (meaning types c.args.t)) name (c.in_ok-is_free-in-Some.ensures.none env is)

pub returns-in-None-clause-kept : goal.returns-in-None-clause-kept
returns-in-None-clause-kept c = λ env is.
    let old = c.args.self.now in
    let name = sym (ap (option_map name_in) c.in-None.is) ∙ c.declared_name.ensures in
    subst (λ name. KeepsName old old env (map (field_in old.types) c.args.before.now) name (meaning old.types c.args.t)) name refl

pub returns-in-None-clause-free : goal.returns-in-None-clause-free
returns-in-None-clause-free c = λ env is.
    let types = c.args.self.now.types in
    let name = sym (ap (option_map name_in) c.in-None.is) ∙ c.declared_name.ensures in
    subst (λ name. false ≡ is_free env (map (field_in types) c.args.before.now) name (meaning types c.args.t)) name refl
