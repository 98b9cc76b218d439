use Rattle.std.proofs.Common.{◌∙◌, ◌++◌, ◌∷◌, [], ap, subst, sym}
use Rattle.std.specs.Prelude.{if◌then◌else◌, option_map}
use Rattle.lk_base.specs.declared.code.Code.TheVariants.{BitField}
use Rattle.lk_typed.specs.Faults.{breach}
use Rattle.lk_rules.specs.Keeping.{KeepsCodes, keep}
use Rattle.lk_found.specs.Specified.{breaches_in}
use Rattle.lk_found.specs.Findings.{mark_at}
use Rattle.lk_checker.proofs.KeepsAll.{bit_field_kept, same_then, then_kept, told_same}
use Rattle.lk_checker.specs.Moves.{KeepsAt}
use Rattle.lk_checker.specs.States.{kept_in}
use Rattle.lk_checker.proofs.checker.Checker.keep_member.Goals as goal

pub returns-clause-kept : goal.returns-clause-kept
returns-clause-kept c =
    let old = c.args.self.now in
    let middle = c.keep_all.new.self in
    let new = c.keep.new.self in
    let at = c.args.at in
    let has = c.args.has_bit_field in
    let bs = breaches_in c.args.breaches.now in
    let cs = if has then breach BitField ∷ [] else [] in
    let own : KeepsAt middle new at cs = subst (KeepsCodes (kept_in middle) (mark_at at) cs)
    (sym (c.in_ok-keep.ensures.kept ∙ ap (λ code. keep (kept_in middle) (mark_at at) (option_map breach code)) c.bit_field_code.ensures)) (bit_field_kept (kept_in middle) (mark_at at) has) in
    subst (λ b. KeepsAt old new at (if b then bs ++ cs else [])) (sym c.if-not-are_typed.false)
    (then_kept old middle new at bs cs c.in_ok-keep_all.ensures.kept own)

pub returns-clause-same : goal.returns-clause-same
returns-clause-same c = same_then c.args.self.now c.keep_all.new.self c.keep.new.self c.in_ok-keep_all.ensures.same (told_same c.keep_all.new.self c.keep.new.self c.args.at _ c.in_ok-keep.ensures)
