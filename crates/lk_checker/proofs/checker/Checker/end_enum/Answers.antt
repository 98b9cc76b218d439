use Rattle.std.proofs.Common.{◌++◌, ◌∷◌, ◌∙◌, [], subst}
use Rattle.std.specs.Prelude.{◌||◌}
use Rattle.lk_found.proofs.Defines.{int_flipped}
use Rattle.lk_found.specs.Specified.{IsGathered}
use Rattle.lk_checker.proofs.NamedTypes.{gathered_stays}
use Rattle.lk_checker.proofs.checker.Checker.end_enum.Goals as goal

pub returns-clause-put : goal.returns-clause-put
returns-clause-put c = λ others codes g.
    let old = c.args.self.now in
    let new = c.put_enum_tag.new.self in
    let grows = c.in_ok-put_enum_tag.ensures.grows in
    let more = record others { holds_sizeof = others.holds_sizeof || c.args.holds_sizeof } in
    subst (λ t. IsGathered new.types c.put_type.new.self (record more { types = more.types ++ t ∷ [] }) codes) (c.enum_type.ensures.named new.types grows.sound.ready ∙ int_flipped c.args.is_admitted)
    (c.put_type.ensures new.types more codes (c.enum_type.ensures.known new.types grows.sound.ready)
    (gathered_stays old.types new.types c.requires.ready.table_is grows.sound.ready.table_is grows.longer c.put_sizeof.new.self more codes (c.put_sizeof.ensures old.types others codes g)))
