use Rattle.std.proofs.Common.{◌≡◌, ◌∙◌, ◌-◌, suc, ap, arith, subst}
use Rattle.std.specs.Option.{option_map}
use Rattle.lk_types.specs.Places.{entry_at}
use Rattle.lk_types.proofs.NodeLemmas.{IsSamePart, last_type, same_part}
use Rattle.lk_types.proofs.table.TypeTable.node_type.Goals as goal

pub returns-clause-value : goal.returns-clause-value
returns-clause-value c =
    let zero : c.loop-number.number ≡ 0 = omega (arith, c.loop-number-test.false) in
    last_type c.args.self.now c.is_table.ensures c.args.n c.requires.number c.loop-number.t
    (c.loop-number.invariant.1.type ∙ ap (λ k. option_map (λ e. e.type) (entry_at c.args.self.now c.loop-number.t k)) zero)

pub loop-number-preserved : goal.loop-number-preserved
loop-number-preserved c =
    let now = c.args.self.now in
    let part = c.part_at-sel.ensures in
    let number : suc (c.loop-number.number - 1) ≡ c.loop-number.number = omega (arith, c.loop-number-test.true) in
    let same = subst (λ k. IsSamePart (entry_at now c.loop-number.t k) (entry_at now c.part_at-sel.result.1 c.part_at-sel.result.2)) number
    (same_part now c.loop-number.t (c.loop-number.number - 1) c.part_at-sel.result.0 c.part_at-sel.result.1 c.part_at-sel.result.2 part) in
    (part.known, record { type = c.loop-number.invariant.1.type ∙ same.type; tag = c.loop-number.invariant.1.tag ∙ same.tag })
