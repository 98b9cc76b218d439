use Rattle.std.proofs.Common.{rules, ℕ, ◌≡◌, false, true, of_z, subst, sym, to_z}
use Rattle.std.specs.Int.{w128}
use Rattle.lk_facts.specs.declared.action.Action.TheVariants.{Binary}
use Rattle.lk_point_statics.specs.Backwards.{moved_by, Leads, MovesTo, NoneLeads, NoneMovesTo}
use Rattle.lk_point_statics.proofs.Giving.{leads_sum, no_sum, no_sum_number}
use Rattle.std.proofs.lemmas.Option.{none-some}
use Rattle.lk_point_statics.proofs.Moving.{match_then}
use Rattle.lk_point_statics.proofs.addresses.before_sum.Goals as goal

pub returns-in-Add : goal.returns-in-Add
returns-in-Add c =
    let program = c.args.points.now in
    let to = c.args.wanted.now in
    let n = c.in_ok-number.number in
    let exact : to_z w128 (of_z w128 n) ≡ n = search rules in
    match_then c.before_move.result c.before_move.ensures
    (λ none (a : ℕ). subst (λ op. NoneLeads program (Binary op a c.args.b) to) (sym c.in-Add.is)
    (no_sum program false a c.args.b n to c.in_ok-number.ensures.number (subst (λ k. NoneMovesTo k to) exact none)))
    (λ from moves (a : ℕ). subst (λ op. Leads program (Binary op a c.args.b) a from to) (sym c.in-Add.is)
    (leads_sum program false a c.args.b n from to c.in_ok-number.ensures.number (subst (λ k. MovesTo k from to) exact moves)))

pub returns-in-Subtract : goal.returns-in-Subtract
returns-in-Subtract c =
    let program = c.args.points.now in
    let to = c.args.wanted.now in
    let n = c.in_ok-number.number in
    let exact : to_z w128 (of_z w128 n) ≡ n = search rules in
    match_then c.before_move-in-Subtract.result c.before_move-in-Subtract.ensures
    (λ none (a : ℕ). subst (λ op. NoneLeads program (Binary op a c.args.b) to) (sym c.in-Subtract.is)
    (no_sum program true a c.args.b n to c.in_ok-number.ensures.number (subst (λ k. NoneMovesTo (moved_by k true) to) exact none)))
    (λ from moves (a : ℕ). subst (λ op. Leads program (Binary op a c.args.b) a from to) (sym c.in-Subtract.is)
    (leads_sum program true a c.args.b n from to c.in_ok-number.ensures.number (subst (λ k. MovesTo (moved_by k true) from to) exact moves)))

pub returns-in_err-number : goal.returns-in_err-number
returns-in_err-number c =
    rw c.from_residual.ensures (λ (a : ℕ). no_sum_number c.args.points.now c.args.op a c.args.b c.args.wanted.now (λ n is. none-some n (c.in_err-number.ensures.only n is)))
