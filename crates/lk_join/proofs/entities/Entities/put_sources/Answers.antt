use Rattle.std.proofs.Common.{◌<◌, ◌+◌, ℕ, All, List, arith, get_or, length, sym, subst}
use Rattle.std.proofs.lemmas.Option.{slice_get-get_or}
use Rattle.lk_link.specs.Sources.{HaveOwnNames, IsSource}
use Rattle.lk_typed.specs.declared.entity.Entity.{Entity}
use Rattle.lk_typed.specs.declared.unit.TypedUnit.{TypedUnit}
use Rattle.lk_types.proofs.KeptLemmas.{read_got}
use Rattle.lk_types.proofs.SizeLemmas.{all_read}
use Rattle.lk_join.specs.Agreeing.{FitFrom}
use Rattle.lk_join.specs.Entities.{AreEntityRows, ArePut}
use Rattle.lk_join.proofs.Agreed.{all_fit}
use Rattle.lk_join.proofs.Entering.{entities_more}
use Rattle.lk_join.proofs.RowNumbers.{entities_have_numbers}
use Rattle.lk_join.proofs.entities.Entities.put_sources.Goals as goal

pub loop-source-preserved : goal.loop-source-preserved
loop-source-preserved c =
    let units = c.args.units.now in
    let types = c.args.types.now in
    let n = c.loop-source.source in
    let unit = c.index-units-source.result in
    let row = c.index-types-source.result in
    let rows = c.loop-source.rows.items in
    let old = c.loop-source.self.list in
    let new = c.put_source.new.self.list in
    let numbers = c.in_ok-numbers.numbers in
    let within : n < length units = omega arith in
    let long : n < length types = let same = c.requires.types in omega (arith, within, same) in
    let by_row = subst (λ r. ArePut n r old c.list-entities.result.now numbers new) c.list-row.ensures c.in_ok-numbers.ensures.put in
    let by_entities = subst (λ entities. ArePut n row old entities numbers new) c.list-entities.ensures by_row in
    let put = subst (λ (u : TypedUnit). ArePut n row old u.entities numbers new) (sym c.index-units-source.is) by_entities in (
      c.in_ok-numbers.ensures.named,
      subst (λ rs. AreEntityRows units types rs new (n + 1)) (sym c.in_ok-push.ensures.items)
          (entities_more units types rows old new numbers row n unit (read_got units n unit within c.index-units-source.is) (read_got types n row long c.index-types-source.is) c.loop-source.invariant.1 put),
    )

pub put_source-requires-clause-numbered : goal.put_source-requires-clause-numbered
put_source-requires-clause-numbered c =
    let units = c.args.units.now in
    let types = c.args.types.now in
    let n = c.loop-source.source in
    let unit = get_or units n c.index-units-source.result in
    let row = c.index-types-source.result in
    let within : n < length units = omega arith in
    let long : n < length types = let same = c.requires.types in omega (arith, within, same) in
    let at = slice_get-get_or units n c.index-units-source.result within in
    let numbered = entities_have_numbers units types c.requires.sources c.requires.numbers n unit row at (read_got types n row long c.index-types-source.is) in
    subst (λ (here : List ℕ). All (λ entity. entity.ty < length here) c.list-entities.result.now) (sym c.list-row.ensures)
    (subst (All (λ (entity : Entity). entity.ty < length row)) (sym c.list-entities.ensures) numbered)

pub put_source-requires-clause-fit : goal.put_source-requires-clause-fit
put_source-requires-clause-fit c =
    let units = c.args.units.now in
    let n = c.loop-source.source in
    let unit = get_or units n c.index-units-source.result in
    let at = slice_get-get_or units n c.index-units-source.result (omega arith) in
    let fit = all_fit units c.requires.sources c.requires.agreed c.args.types.now c.loop-source.rows.items c.loop-source.self.list n c.loop-source.invariant.1 unit at in
    subst (λ entities. FitFrom c.loop-source.self.list entities 0) (sym c.list-entities.ensures) fit

pub put_source-requires-clause-names : goal.put_source-requires-clause-names
put_source-requires-clause-names c =
    let units = c.args.units.now in
    let n = c.loop-source.source in
    let unit = get_or units n c.index-units-source.result in
    let at = slice_get-get_or units n c.index-units-source.result (omega arith) in
    subst HaveOwnNames (sym c.list-entities.ensures) (all_read IsSource units n unit c.requires.sources at).names
