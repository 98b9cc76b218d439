use Rattle.std.proofs.Common.{◌≡◌, ◌∙◌, ◌++◌, ◌∷◌, [], ap, arith, length}
use Rattle.lk_scopes.specs.declared.declarations.Entry.{Entry}
use Rattle.lk_scopes.proofs.LastPlaces.{entries_pushed}
use Rattle.lk_scopes.proofs.declarations.Declarations.push.Goals as goal

pub invariant_of-self-2 : goal.invariant_of-self-2
invariant_of-self-2 g c =
    let old = c.self.inside.entries.items in
    let entry : Entry g.row.T.Denot = record { item = c.args.item; hides = c.in_ok-hides.hides } in
    let place : c.len-place.result ≡ length old = omega arith in
    entries_pushed g.T.Named.name_of (λ e. e.item) (λ e. e.hides) old c.push_reserved.new.self.items entry c.self.inside.latest.entries c.insert.new.self.entries c.in_ok-name.name c.len-place.result
    (c.push_reserved.ensures.items ∙ ap (λ items. items ++ entry ∷ []) c.reserve.ensures.items) c.self.invariant (c.in_ok-name.ensures ∙ c.name.ensures) place
    c.in_ok-hides.ensures.old (λ q. c.in_ok-hides.ensures.updates.0 q)
