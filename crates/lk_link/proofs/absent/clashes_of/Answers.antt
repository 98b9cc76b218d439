use Rattle.std.proofs.Common.{◌≡◌, [], Some, sym, arith, ap, subst, length, get_or}
use Rattle.std.specs.List.{slice_get}
use Rattle.std.proofs.lemmas.Option.{slice_get-get_or}
use Rattle.lk_link.specs.Absent.{IsAbsentAt}
use Rattle.lk_link.specs.Sites.{Grows, IsOfBelow, IsOfAt}
use Rattle.lk_link.specs.declared.sites.EntityOf.{EntityOf}
use Rattle.lk_link.proofs.Growing.{grows_more, grows_none}
use Rattle.lk_link.proofs.Lacking.{IsAbsentFrom, absent_grown, all_missing}
use Rattle.lk_link.proofs.Naming.{known_external}
use Rattle.lk_link.proofs.absent.clashes_of.Goals as goal

abbrev none : EntityOf
none = record { source = 0; number = 0 }

pub loop-at-init : goal.loop-at-init
loop-at-init c =
    let Is = IsAbsentFrom c.args.units.now c.args.names.now c.args.users.now c.args.externs.now in
    subst (λ new. Grows [] new (IsOfBelow (IsOfAt Is c.args.names.now.externals) 0)) (sym c.new-clashes.ensures.items) (grows_none (IsOfAt Is c.args.names.now.externals) [])

pub entity_at-entity-requires : goal.entity_at-entity-requires
entity_at-entity-requires c =
    let es = c.externals-at-items.result.now in
    let n = c.loop-at.at-index in
    let at = get_or es n none in
    let there = subst (λ xs. slice_get xs n ≡ Some at) c.externals-at-items.ensures (slice_get-get_or es n none c.loop-at-test.true) in
    let known = known_external c.args.units.now c.args.names.now.externals n at c.requires.names.externals there in
    (known.0, known.1.of)

pub loop-at-preserved : goal.loop-at-preserved
loop-at-preserved c =
    let units = c.args.units.now in
    let names = c.args.names.now in
    let users = c.args.users.now in
    let externs = c.args.externs.now in
    let es = c.externals-at-items.result.now in
    let n = c.loop-at.at-index in
    let at = get_or es n none in
    let there = subst (λ xs. slice_get xs n ≡ Some at) c.externals-at-items.ensures (slice_get-get_or es n none c.loop-at-test.true) in
    let old = c.loop-at.clashes.items in
    let new = c.push_absent.new.clashes.items in
    let entity = c.entity_at-entity.result.now in
    grows_more (IsOfAt (IsAbsentFrom units names users externs) names.externals) n [] old new c.loop-at.invariant
    (absent_grown units names users externs n at entity old new c.requires.names.externals there c.entity_at-entity.ensures
    (subst (λ group. Grows old new (IsAbsentAt group users externs at.source entity)) c.group-group.ensures c.in_ok-push_absent.ensures))

pub returns : goal.returns
returns c =
    let count = ap length c.externals-at-items.ensures in
    λ list listed. all_missing c.args.units.now c.args.names.now c.args.users.now c.args.externs.now list c.requires.names c.requires.users listed c.loop-at.clashes.items c.loop-at.at-index (omega (arith, count)) c.loop-at.invariant
