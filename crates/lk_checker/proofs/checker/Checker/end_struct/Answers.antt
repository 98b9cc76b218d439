use Rattle.std.proofs.Common.{◌++◌, ◌∷◌, [], subst, sym}
use Rattle.std.specs.Prelude.{◌||◌}
use Rattle.lk_names.specs.InScope.{InScope}
use Rattle.lk_found.specs.Specified.{IsGathered}
use Rattle.lk_found.specs.Specifying.{KeepsOthersBegun}
use Rattle.lk_checker.proofs.GoingOn.{grows_then}
use Rattle.lk_checker.proofs.NamedTypes.{gathered_stays}
use Rattle.lk_checker.proofs.States.{stays_in}
use Rattle.lk_checker.proofs.checker.Checker.end_struct.Goals as goal

pub returns-clause-grows : goal.returns-clause-grows
returns-clause-grows c = grows_then c.args.self.now c.complete.new.self c.type_if_admitted.new.self c.in_ok-complete.ensures.grows c.in_ok-t.ensures.grows

pub returns-clause-others : goal.returns-clause-others
returns-clause-others c =
    subst (λ (names : InScope). KeepsOthersBegun c.args.begun.number c.args.self.now.names.structs names.structs) (sym c.in_ok-t.ensures.names) c.in_ok-complete.ensures.others

pub returns-clause-behind : goal.returns-clause-behind
returns-clause-behind c = λ env told is members.
    let grows = c.in_ok-t.ensures.grows in
    stays_in c.complete.new.self c.type_if_admitted.new.self c.in_ok-complete.ensures.grows.sound grows.longer c.in_ok-t.ensures.names grows.outside _
    (c.in_ok-complete.ensures.behind env told is members)

pub returns-clause-put : goal.returns-clause-put
returns-clause-put c = λ others codes g.
    let old = c.args.self.now in
    let new = c.type_if_admitted.new.self in
    let grows = grows_then old c.complete.new.self new c.in_ok-complete.ensures.grows c.in_ok-t.ensures.grows in
    let more = record others { holds_sizeof = others.holds_sizeof || c.args.found.holds_sizeof } in
    subst (λ t. IsGathered new.types c.put_type.new.self (record more { types = more.types ++ t ∷ [] }) codes) c.in_ok-t.ensures.means
    (c.put_type.ensures new.types more codes c.in_ok-t.ensures.known
    (gathered_stays old.types new.types c.requires.sound.ready.table_is grows.sound.ready.table_is grows.longer c.put_sizeof.new.self more codes (c.put_sizeof.ensures old.types others codes g)))
