use Rattle.std.proofs.Common.{◌≡◌, ◌<◌, ◌++◌, ◌∷◌, [], ◌∙◌, ℕ, ap, arith, get_or, length, subst, sym}
use Rattle.std.specs.Prelude.{◌↔◌}
use Rattle.lk_lower_parts.proofs.Marking.{marked_more, with_new, with_old}
use Rattle.lk_lower_parts.specs.Parts.{IsWith}
use Rattle.lk_types.specs.Building.{IsLeast}
use Rattle.lk_types.specs.Equal.{IsAlike}
use Rattle.lk_types.specs.Table.{IsKnown, Table, least_of}
use Rattle.lk_lower_parts.proofs.parts.push_part.Goals as goal

-- the least of the types that are equal to one but for the sizes of arrays is in the table
within_seen : (table : Table) (t u : ℕ) → IsKnown table t → IsLeast table t u → u ≡ least_of table t → ((v : ℕ) → IsKnown table v → IsAlike table.types t v ↔ (u ≡ least_of table v)) → u < length table.types
within_seen table t u known least value alike = omega (arith, known, least.least t known ((alike t known).1 value))

pub returns-in_ok-push-clause-marked : goal.returns-in_ok-push-clause-marked
returns-in_ok-push-clause-marked c =
    marked_more c.args.seen.now.items c.args.parts.now.items c.push.new.self.items c.index-then-not-index.result (omega (arith, c.index-then-not-index.ensures, within_seen c.args.types.now c.args.t c.least_alike-least.result (omega arith) c.least_alike-least.ensures.least c.least_alike-least.ensures.value c.least_alike-least.ensures.alike, c.requires.long))
    (c.in_ok-push.ensures.items ∙ ap (λ n. c.args.parts.now.items ++ n ∷ []) (sym c.index-then-not-index.ensures)) c.requires.marked

pub returns-in_ok-push-clause-with : goal.returns-in_ok-push-clause-with
returns-in_ok-push-clause-with c =
    subst (λ u. IsWith u c.args.parts.now.items c.push.new.self.items) c.least_alike-least.ensures.value
    (with_new c.args.seen.now.items c.args.parts.now.items c.push.new.self.items c.least_alike-least.result c.index-2.result.now
    (subst (λ n. c.index-2.result.now ≡ get_or c.args.seen.now.items n c.index-2.result.now) c.index.ensures c.index-2.ensures) c.if-not-index.true c.in_ok-push.ensures.items c.requires.marked)

pub returns-else-not-index-clause-with : goal.returns-else-not-index-clause-with
returns-else-not-index-clause-with c =
    subst (λ u. IsWith u c.args.parts.now.items c.args.parts.now.items) c.least_alike-least.ensures.value
    (with_old c.args.seen.now.items c.args.parts.now.items c.least_alike-least.result c.index-2.result.now (omega (arith, within_seen c.args.types.now c.args.t c.least_alike-least.result (omega arith) c.least_alike-least.ensures.least c.least_alike-least.ensures.value c.least_alike-least.ensures.alike, c.requires.long))
    (subst (λ n. c.index-2.result.now ≡ get_or c.args.seen.now.items n c.index-2.result.now) c.index.ensures c.index-2.ensures) c.if-not-index.false c.requires.marked)
