use Rattle.std.proofs.Common.{◌≡◌, ◌<◌, ◌+◌, Some, ap, arith, get_or, length, sym, subst}
use Rattle.std.proofs.lemmas.Option.{slice_get-get_or}
use Rattle.std.specs.List.{slice_get}
use Rattle.lk_link.specs.Sources.{IsSource}
use Rattle.lk_typed.specs.declared.unit.TypedUnit.{TypedUnit}
use Rattle.lk_types.proofs.KeptLemmas.{read_got}
use Rattle.lk_types.proofs.SizeLemmas.{all_read}
use Rattle.lk_types.proofs.GrowLemmas.{longer_same, longer_then}
use Rattle.lk_join.specs.Completing.{AreCompleted, GivesMembers, HasMembers}
use Rattle.lk_join.specs.Forms.{ArePutAt, AreRowsOf}
use Rattle.lk_join.specs.Large.{AreAsLarge, AreAsLargeHere, IsTypeTable}
use Rattle.lk_join.proofs.Carrying.{all_large_later, none_large}
use Rattle.lk_join.proofs.Counting.{few_structs, one_each, structs_within}
use Rattle.lk_join.proofs.Giving.{members_more, no_members}
use Rattle.lk_join.proofs.Growing.{no_rows, rows_more}
use Rattle.lk_join.proofs.Sizing.{numbers_as_large}
use Rattle.lk_join.proofs.types.join_rows.Goals as goal

pub loop-number-init : goal.loop-number-init
loop-number-init c =
    let units = c.args.units.now in
    let numbers = c.args.numbers.now.rows in
    let table = c.args.table.now in (
      longer_same table,
      subst (λ rows. AreRowsOf units numbers table rows 0) (sym c.new-rows.ensures.items) (no_rows units numbers table),
      subst (λ rows. HasMembers units numbers rows table) (sym c.new-rows.ensures.items) (no_members units numbers table c.requires.incomplete),
      none_large units numbers table c.requires.incomplete,
    )

pub loop-number-preserved : goal.loop-number-preserved
loop-number-preserved c =
    let units = c.args.units.now in
    let numbers = c.args.numbers.now.rows in
    let n = c.loop-number.number in
    let unit = get_or units n c.index-units-number.result in
    let rows = c.loop-number.rows.items in
    let before = c.loop-number.table in
    let after = c.join.new.table in
    let row = c.in_ok-row.row in
    let structs = c.index-structs-number.result in
    let size = c.loop-number.invariant.1.size in
    let within : n < length units = omega arith in
    let listed = c.list-structs.result.now in
    let long : n < length listed = let same = c.requires.numbers.sources in let list = ap length c.list-structs.ensures in omega (arith, within, same, list) in
    let there = subst (λ rows. slice_get rows n ≡ Some structs) c.list-structs.ensures (read_got listed n structs long c.index-structs-number.is) in
    let put = subst (λ here. ArePutAt after row here unit.types.types) c.list.ensures c.in_ok-row.ensures.put in
    let gives = subst (λ here. GivesMembers unit.types row here before after) c.list.ensures c.in_ok-row.ensures.gives in
    let completed = subst (λ here. AreCompleted unit.types here after (length unit.types.members)) c.list.ensures c.in_ok-row.ensures.completed in
    let large = subst (λ here. AreAsLargeHere unit.types here after) c.list.ensures c.in_ok-row.ensures.large in
    let at = slice_get-get_or units n c.index-units-number.result within in (
      longer_then c.args.table.now before after c.loop-number.invariant.0 gives.longer,
      subst (λ rs. AreRowsOf units numbers after rs (n + 1)) (sym c.in_ok-push.ensures.items)
          (rows_more units numbers before after gives.longer rows n row structs unit c.loop-number.invariant.1 at there put),
      subst (λ rs. HasMembers units numbers rs after) (sym c.in_ok-push.ensures.items)
          (members_more units numbers rows before after row structs unit n size at there gives completed c.loop-number.invariant.2),
      all_large_later units numbers c.args.numbers.now.count c.requires.numbers c.requires.tables n unit row structs at there before after c.is_type_table.ensures gives large
          c.loop-number.invariant.3,
    )

pub invariant_of-source : goal.invariant_of-source
invariant_of-source c =
    let units = c.args.units.now in
    let numbers = c.args.numbers.now.rows in
    let n = c.loop-number.number in
    let unit = get_or units n c.index-units-number.result in
    let structs = c.index-structs-number.result in
    let within : n < length units = omega arith in
    let at = slice_get-get_or units n c.index-units-number.result within in
    let listed = c.list-structs.result.now in
    let long : n < length listed = let same = c.requires.numbers.sources in let list = ap length c.list-structs.ensures in omega (arith, within, same, list) in
    let there = subst (λ rows. slice_get rows n ≡ Some structs) c.list-structs.ensures (read_got listed n structs long c.index-structs-number.is) in
    record {
      all_structs = one_each units numbers c.args.numbers.now.count c.requires.numbers n unit at structs there c.list.result.now c.list.ensures;
      few_structs = few_structs units numbers c.args.numbers.now.count c.requires.numbers n unit at structs there c.list.result.now c.list.ensures c.requires.few;
      all_members = (all_read IsSource units n unit c.requires.sources at).members;
      as_large = subst (λ here. AreAsLarge unit.types here unit.types here) (sym c.list.ensures)
          (numbers_as_large units numbers c.args.numbers.now.count c.requires.numbers c.requires.tables n n unit unit structs structs at at there there);
    }

pub join-requires : goal.join-requires
join-requires c =
    let units = c.args.units.now in
    let numbers = c.args.numbers.now.rows in
    let n = c.loop-number.number in
    let unit = get_or units n c.index-units-number.result in
    let structs = c.index-structs-number.result in
    let table = c.loop-number.table in
    let within : n < length units = omega arith in
    let at = slice_get-get_or units n c.index-units-number.result within in
    let listed = c.list-structs.result.now in
    let long : n < length listed = let same = c.requires.numbers.sources in let list = ap length c.list-structs.ensures in omega (arith, within, same, list) in
    let there = subst (λ rows. slice_get rows n ≡ Some structs) c.list-structs.ensures (read_got listed n structs long c.index-structs-number.is) in
    let more = c.loop-number.invariant.0.structs in
    let first = c.requires.within in
    record {
      source = all_read (λ (u : TypedUnit). IsTypeTable u.types) units n unit c.requires.tables at;
      is_table = c.is_type_table.ensures;
      put = tt;
      large = subst (λ here. AreAsLargeHere unit.types here table) (sym c.list.ensures) (c.loop-number.invariant.3 n unit structs at there);
      known = structs_within units numbers c.args.numbers.now.count c.requires.numbers n unit at structs there c.list.result.now c.list.ensures (length table.members) (omega (arith, more, first));
    }
