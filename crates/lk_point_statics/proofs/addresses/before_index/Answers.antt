use Rattle.std.proofs.Common.{rules, ℕ, ◌≡◌, of_z, subst, sym, to_z}
use Rattle.std.specs.Int.{w128}
use Rattle.lk_facts.specs.declared.action.Action.TheVariants.{Index}
use Rattle.lk_point_statics.specs.Backwards.{EndsInElement, Leads, MovesTo, NoneLeads, NoneMovesTo, StepsToElement}
use Rattle.lk_point_statics.proofs.Giving.{leads_element, leads_index, no_element, no_index, no_index_number}
use Rattle.std.proofs.lemmas.Option.{none-some}
use Rattle.lk_point_statics.proofs.Moving.{match_then}
use Rattle.lk_point_statics.proofs.addresses.before_index.Goals as goal

pub returns-then-into : goal.returns-then-into
returns-then-into c =
    let program = c.args.points.now in
    let to = c.args.wanted.now in
    let n = c.in_ok-number.number in
    let exact : to_z w128 (of_z w128 n) ≡ n = search rules in
    match_then c.before_element.result c.before_element.ensures
    (λ none (a : ℕ). subst (λ into. NoneLeads program (Index a c.args.b into) to) (sym c.if-into.true)
    (no_element program a c.args.b n to c.in_ok-number.ensures.number (λ ends. none (subst (λ k. EndsInElement k to) (sym exact) ends))))
    (λ from steps (a : ℕ). subst (λ into. Leads program (Index a c.args.b into) a from to) (sym c.if-into.true)
    (leads_element program a c.args.b n from to c.in_ok-number.ensures.number (subst (λ k. StepsToElement k from to) exact steps)))

pub returns-else-into : goal.returns-else-into
returns-else-into c =
    let program = c.args.points.now in
    let to = c.args.wanted.now in
    let n = c.in_ok-number.number in
    let exact : to_z w128 (of_z w128 n) ≡ n = search rules in
    match_then c.before_move.result c.before_move.ensures
    (λ none (a : ℕ). subst (λ into. NoneLeads program (Index a c.args.b into) to) (sym c.if-into.false)
    (no_index program a c.args.b n to c.in_ok-number.ensures.number (subst (λ k. NoneMovesTo k to) exact none)))
    (λ from moves (a : ℕ). subst (λ into. Leads program (Index a c.args.b into) a from to) (sym c.if-into.false)
    (leads_index program a c.args.b n from to c.in_ok-number.ensures.number (subst (λ k. MovesTo k from to) exact moves)))

pub returns-in_err-number : goal.returns-in_err-number
returns-in_err-number c =
    rw c.from_residual.ensures (λ (a : ℕ). no_index_number c.args.points.now a c.args.b c.args.into c.args.wanted.now (λ n is. none-some n (c.in_err-number.ensures.only n is)))
