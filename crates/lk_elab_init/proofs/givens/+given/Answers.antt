use Rattle.std.proofs.Common.{◌∙◌, ◌+◌, drop, arith, refl, sym, subst}
use Rattle.std.proofs.lemmas.Result.{on_ok_weaker}
use Rattle.lk_elab_init.specs.Giving.{GivesToEntries}
use Rattle.lk_elab_init.proofs.Giving.{all_put, entries_in_braces, next_left, none_put, nothing_left, one_put, first_in_braces}
use Rattle.lk_elab_init.proofs.givens.+given.Goals as goal

pub given_by_list-returns-else-branch : goal.given_by_list-returns-else-branch
given_by_list-returns-else-branch t c =
    on_ok_weaker c.given_by_entries.result
    (λ h. (
      h.0,
      h.1,
      entries_in_braces c.args.walk.now c.args.ty c.args.path.now c.args.list.now h.0 (sym c.in_ok-is_braced_text.ensures ∙ c.if-branch.false)
          (subst (λ es. GivesToEntries c.args.walk.now c.args.ty c.args.path.now es h.0) c.list-else-branch.ensures h.2),
    ))
    c.given_by_entries.ensures

pub given_by_entries-loop-entry-init : goal.given_by_entries-loop-entry-init
given_by_entries-loop-entry-init t c = none_put c.args.walk.now c.args.ty c.args.path.now c.args.entries.now c.args.out.now.items c.args.out.now.items refl

pub given_by_entries-loop-entry-preserved : goal.given_by_entries-loop-entry-preserved
given_by_entries-loop-entry-preserved t c =
    let walk = c.args.walk.now in
    let all = c.args.entries.now in
    let k = c.loop-entry.entry-index in
    one_put walk c.args.ty c.args.path.now all c.args.out.now.items c.loop-entry.out.items c.given_by_entry.new.out.items c.loop-entry.number c.in-Some.next (drop k all) (drop (k + 1) all)
    c.entry-item.result (let next = c.in-Some.ensures.1 in omega (arith, next)) (next_left all k c.entry-item.result c.loop-entry-test.true c.entry-item.is) c.loop-entry.invariant c.in_ok-given_by_entry.ensures

pub given_by_entries-returns : goal.given_by_entries-returns
given_by_entries-returns t c =
    let all = c.args.entries.now in
    let k = c.loop-entry.entry-index in
    all_put c.args.walk.now c.args.ty c.args.path.now all c.args.out.now.items c.loop-entry.out.items c.loop-entry.number (drop k all) (nothing_left all k c.loop-entry-test.false) c.loop-entry.invariant

pub given_by_text-returns : goal.given_by_text-returns
given_by_text-returns t c =
    on_ok_weaker c.given.result
    (λ h. (
      h.0,
      h.1,
      first_in_braces c.args.walk.now c.args.ty c.args.path.now c.args.entries.now c.index-entries-0.result c.index-entries-0-2.result c.list.result.now h.0 c.if-is_empty.ensures
          c.if-not-is_empty.ensures c.list.ensures h.2,
    ))
    c.given.ensures
