use Rattle.std.proofs.Common.{◌∙◌, map, sym, ap, subst}
use Rattle.std.specs.Prelude.{is_some, option_map}
use Rattle.lk_typed.specs.Faults.{breach}
use Rattle.lk_typed.specs.Typings.{field_in}
use Rattle.lk_rules.specs.Keeping.{KeepsCodes, keep}
use Rattle.lk_found.proofs.MemberCodes.{larger_codes, larger_is, size_before, size_kept}
use Rattle.lk_found.specs.Findings.{mark_at}
use Rattle.lk_checker.proofs.KeepsAll.{told_same}
use Rattle.lk_checker.proofs.Shaping.{fields_are}
use Rattle.lk_checker.specs.States.{kept_in}
use Rattle.lk_checker.proofs.checker.Checker.keep_member_size.Goals as goal

pub returns-clause-kept : goal.returns-clause-kept
returns-clause-kept c = λ env fields is known size.
    let old = c.args.self.now in
    let good = c.requires.sound.ready.table_is in
    let same = fields_are old c.requires.sound env is in
    let with_it = c.with_member-larger.ensures env (map (field_in old.types) fields) same (size ∙ size_before old.types good env same fields known) in
    let rules = larger_codes old.types good env same fields known c.args.t c.with_member-larger.result with_it in
    let mark = mark_at c.args.at in
    subst (λ bs. KeepsCodes (kept_in old) mark bs (kept_in c.keep.new.self)) (sym rules)
    (subst (KeepsCodes (kept_in old) mark _) (sym (c.in_ok-keep.ensures.kept ∙ ap (λ code. keep (kept_in old) mark (option_map breach code)) c.size_code.ensures))
    (size_kept (kept_in old) mark (is_some c.with_member-larger.result)))

pub returns-clause-same : goal.returns-clause-same
returns-clause-same c = told_same c.args.self.now c.keep.new.self c.args.at _ c.in_ok-keep.ensures

pub returns-clause-larger : goal.returns-clause-larger
returns-clause-larger c = λ env fields is known size.
    let old = c.args.self.now in
    let good = c.requires.sound.ready.table_is in
    let same = fields_are old c.requires.sound env is in
    larger_is old.types good env same fields known c.args.t c.requires.known c.with_member-larger.result
    (c.with_member-larger.ensures env (map (field_in old.types) fields) same (size ∙ size_before old.types good env same fields known))
