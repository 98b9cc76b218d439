use Rattle.std.proofs.Common.{◌≡◌, ◌∙◌, Some, None, sym, subst, map, arith}
use Rattle.lk_scopes.specs.Latest.{latest, is_name}
use Rattle.lk_scopes.proofs.LastPlaces.{entry_in, found_item, no_latest}
use Rattle.lk_scopes.proofs.declarations.Declarations.look_up.Goals as goal

pub index-requires : goal.index-requires
index-requires g c =
    omega (
      arith,
      entry_in g.T.Named.name_of (λ entry. entry.item) c.self.inside.entries.items c.args.name.now c.in-Some.place.now
          (sym (c.self.invariant.found c.args.name.now) ∙ sym c.in-Some.ensures.value),
    )

pub returns-in-Some : goal.returns-in-Some
returns-in-Some g c =
    subst (λ v. Some c.index.result.now.item ≡ latest (λ item. is_name (g.T.Named.name_of item) c.args.name.now) v) c.self.view_is
    (found_item g.T.Named.name_of (λ entry. entry.item) c.self.inside.entries.items c.args.name.now c.in-Some.place.now c.index.result.now
    (sym (c.self.invariant.found c.args.name.now) ∙ sym c.in-Some.ensures.value) c.index.ensures)

pub returns-in-None : goal.returns-in-None
returns-in-None g c =
    subst (λ v. None ≡ latest (λ item. is_name (g.T.Named.name_of item) c.args.name.now) v) c.self.view_is
    (sym (no_latest g.T.Named.name_of (map (λ entry. entry.item) c.self.inside.entries.items) c.args.name.now
    (sym (c.self.invariant.found c.args.name.now) ∙ sym c.in-None.ensures.value)))
