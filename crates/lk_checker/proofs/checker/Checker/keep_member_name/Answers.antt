use Rattle.std.proofs.Common.{◌∙◌, map, sym, ap, subst}
use Rattle.std.specs.Prelude.{is_some, option_map}
use Rattle.lk_typed.specs.Env.{Env, field_of}
use Rattle.lk_typed.specs.Meaning.{meaning}
use Rattle.lk_typed.specs.Sizes.{is_complete}
use Rattle.lk_typed.specs.Typings.{field_in, structs_in}
use Rattle.lk_rules.specs.Keeping.{KeepsCodes, keep}
use Rattle.lk_found.proofs.MemberCodes.{name_kept}
use Rattle.lk_found.specs.MembersOf.{member_breach}
use Rattle.lk_found.specs.Findings.{mark_at}
use Rattle.lk_checker.proofs.KeepsAll.{told_same}
use Rattle.lk_checker.specs.States.{kept_in}
use Rattle.lk_checker.proofs.checker.Checker.keep_member_name.Goals as goal

pub returns-clause-kept : goal.returns-clause-kept
returns-clause-kept c = λ env is.
    let old = c.args.self.now in
    let types = old.types in
    let name = c.args.name.now in
    let again = is_some (field_of (map (field_in types) c.args.before.now) name) in
    let complete = is_complete env.structs (meaning types c.args.t) in
    let code = c.member_code-code.ensures env (ap (λ (e : Env). e.structs) (sym is.scope) ∙ ap (structs_in types) (sym c.structs.ensures)) in
    subst (KeepsCodes (kept_in old) (mark_at c.args.at) _) (sym (c.in_ok-keep_member_code.ensures.kept ∙ ap (λ o. keep (kept_in old) (mark_at c.args.at) (option_map (member_breach name) o)) code))
    (name_kept (kept_in old) (mark_at c.args.at) again complete name)

pub returns-clause-same : goal.returns-clause-same
returns-clause-same c = told_same c.args.self.now c.keep_member_code.new.self c.args.at _ c.in_ok-keep_member_code.ensures
