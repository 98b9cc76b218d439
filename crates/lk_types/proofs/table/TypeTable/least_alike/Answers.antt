use Rattle.std.proofs.Common.{◌≡◌, ◌↔◌, ℕ, sym, subst}
use Rattle.lk_types.specs.Building.{IsLeast}
use Rattle.lk_types.specs.Equal.{IsAlike}
use Rattle.lk_types.specs.Table.{IsKnown, least_of}
use Rattle.lk_types.proofs.KeptLemmas.{is_least_kept, least_kept, alike_kept, at_number}
use Rattle.lk_types.proofs.table.TypeTable.least_alike.Goals as goal

pub returns-clause-value : goal.returns-clause-value
returns-clause-value c =
    let inside = c.self.inside in
    let at = at_number inside.types c.index.ensures c.at.ensures in
    subst (λ table. c.at.result.1.now.least ≡ least_of table c.args.t) c.self.view_is
    (sym (least_kept inside.types inside.classes inside.structs.items inside.parts c.self.invariant c.args.t c.at.result.0.now c.at.result.1.now at))

pub returns-clause-least : goal.returns-clause-least
returns-clause-least c =
    let inside = c.self.inside in
    let at = at_number inside.types c.index.ensures c.at.ensures in
    subst (λ table. IsLeast table c.args.t c.at.result.1.now.least) c.self.view_is
    (is_least_kept inside.types inside.classes inside.structs.items inside.parts c.self.invariant c.args.t c.at.result.0.now c.at.result.1.now at)

pub returns-clause-alike : goal.returns-clause-alike
returns-clause-alike c =
    let inside = c.self.inside in
    let at = at_number inside.types c.index.ensures c.at.ensures in
    subst (λ table. (u : ℕ) → IsKnown table u → IsAlike table.types c.args.t u ↔ (c.at.result.1.now.least ≡ least_of table u)) c.self.view_is
    (alike_kept inside.types inside.classes inside.structs.items inside.parts c.self.invariant c.args.t c.at.result.0.now c.at.result.1.now at)
