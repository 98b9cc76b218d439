use Rattle.std.proofs.Common.{◌≡◌, ◌∙◌, arith, sym, subst, ap}
use Rattle.lk_types.specs.Sizes.{size_at, is_over}
use Rattle.lk_types.proofs.KeptLemmas.{size_kept, struct_size_kept, struct_within, size_small, at_number, read_got}
use Rattle.lk_types.proofs.table.TypeTable.size.Goals as goal

pub index-requires-in-Some : goal.index-requires-in-Some
index-requires-in-Some c =
    let inside = c.self.inside in
    let at = at_number inside.types c.index.ensures c.at.ensures in
    let within = struct_within inside.types inside.classes inside.structs.items inside.parts c.self.invariant c.args.t c.at.result.0.now c.at.result.1.now at c.in-Some.s (sym c.in-Some.ensures) in
    omega (arith, within, inside.structs.ok)

pub returns-in-Some-clause-value : goal.returns-in-Some-clause-value
returns-in-Some-clause-value c =
    let inside = c.self.inside in
    let structs = inside.structs.items in
    let entry = c.index-in-Some.result.now in
    let at = at_number inside.types c.index.ensures c.at.ensures in
    let within = struct_within inside.types inside.classes structs inside.parts c.self.invariant c.args.t c.at.result.0.now c.at.result.1.now at c.in-Some.s (sym c.in-Some.ensures) in
    subst (λ table. entry.size ≡ size_at table c.args.t) c.self.view_is
    (struct_size_kept inside.types inside.classes structs inside.parts c.self.invariant c.args.t c.at.result.0.now c.at.result.1.now at c.in-Some.s (sym c.in-Some.ensures) entry
    (read_got structs c.in-Some.s entry within c.index-in-Some.ensures))

pub returns-in-Some-clause-small : goal.returns-in-Some-clause-small
returns-in-Some-clause-small c =
    let inside = c.self.inside in
    let structs = inside.structs.items in
    let entry = c.index-in-Some.result.now in
    let at = at_number inside.types c.index.ensures c.at.ensures in
    let within = struct_within inside.types inside.classes structs inside.parts c.self.invariant c.args.t c.at.result.0.now c.at.result.1.now at c.in-Some.s (sym c.in-Some.ensures) in
    ap is_over
    (struct_size_kept inside.types inside.classes structs inside.parts c.self.invariant c.args.t c.at.result.0.now c.at.result.1.now at c.in-Some.s (sym c.in-Some.ensures) entry
    (read_got structs c.in-Some.s entry within c.index-in-Some.ensures)) ∙
    size_small inside.types inside.classes structs inside.parts c.self.invariant c.args.t c.at.result.0.now c.at.result.1.now at

pub returns-in-None-clause-value : goal.returns-in-None-clause-value
returns-in-None-clause-value c =
    let inside = c.self.inside in
    let at = at_number inside.types c.index.ensures c.at.ensures in
    subst (λ table. c.at.result.1.now.size ≡ size_at table c.args.t) c.self.view_is
    (size_kept inside.types inside.classes inside.structs.items inside.parts c.self.invariant c.args.t c.at.result.0.now c.at.result.1.now at (sym c.in-None.ensures))

pub returns-in-None-clause-small : goal.returns-in-None-clause-small
returns-in-None-clause-small c =
    let inside = c.self.inside in
    let at = at_number inside.types c.index.ensures c.at.ensures in
    ap is_over (size_kept inside.types inside.classes inside.structs.items inside.parts c.self.invariant c.args.t c.at.result.0.now c.at.result.1.now at (sym c.in-None.ensures)) ∙
    size_small inside.types inside.classes inside.structs.items inside.parts c.self.invariant c.args.t c.at.result.0.now c.at.result.1.now at
