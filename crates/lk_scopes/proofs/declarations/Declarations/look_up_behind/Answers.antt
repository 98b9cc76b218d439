use Rattle.std.proofs.Common.{◌≡◌, ◌∙◌, Some, None, sym, subst, map, drop, arith}
use Rattle.lk_scopes.specs.Latest.{latest, is_name}
use Rattle.lk_scopes.proofs.LastPlaces.{entry_in, found_behind, latest_before, no_latest_behind}
use Rattle.lk_scopes.proofs.declarations.Declarations.look_up_behind.Goals as goal

pub index-requires : goal.index-requires
index-requires g c =
    omega (
      arith,
      entry_in g.T.Named.name_of (λ entry. entry.item) c.self.inside.entries.items c.args.name.now c.in-Some.place.now
          (sym (c.self.invariant.found c.args.name.now) ∙ sym c.in-Some.ensures.value),
    )

pub returns-then-place-base : goal.returns-then-place-base
returns-then-place-base g c =
    subst (λ v. None ≡ latest (λ item. is_name (g.T.Named.name_of item) c.args.name.now) (drop c.args.base v)) c.self.view_is
    (sym (latest_before g.T.Named.name_of (map (λ entry. entry.item) c.self.inside.entries.items) c.args.name.now c.args.base c.in-Some.place.now
    (sym (c.self.invariant.found c.args.name.now) ∙ sym c.in-Some.ensures.value) c.if-place-base.true))

pub returns-else-place-base : goal.returns-else-place-base
returns-else-place-base g c =
    subst (λ v. Some c.index.result.now.item ≡ latest (λ item. is_name (g.T.Named.name_of item) c.args.name.now) (drop c.args.base v)) c.self.view_is
    (found_behind g.T.Named.name_of (λ entry. entry.item) c.self.inside.entries.items c.args.name.now c.in-Some.place.now c.args.base c.index.result.now
    (sym (c.self.invariant.found c.args.name.now) ∙ sym c.in-Some.ensures.value) c.if-place-base.false c.index.ensures)

pub returns-in-None : goal.returns-in-None
returns-in-None g c =
    subst (λ v. None ≡ latest (λ item. is_name (g.T.Named.name_of item) c.args.name.now) (drop c.args.base v)) c.self.view_is
    (sym (no_latest_behind g.T.Named.name_of (map (λ entry. entry.item) c.self.inside.entries.items) c.args.name.now c.args.base
    (sym (c.self.invariant.found c.args.name.now) ∙ sym c.in-None.ensures.value)))
