use Rattle.std.proofs.Common.{arith, get_or, sym, subst}
use Rattle.std.proofs.lemmas.Option.{slice_get-get_or}
use Rattle.lk_link.specs.Absent.{AreLeast}
use Rattle.lk_link.specs.declared.sites.EntityOf.{EntityOf}
use Rattle.lk_link.proofs.Lacking.{IsUsedBelow, users_none, users_turn, users_all}
use Rattle.lk_link.proofs.Naming.{known_external}
use Rattle.lk_link.proofs.absent.users.Goals as goal

abbrev none : EntityOf
none = record { source = 0; number = 0 }

pub loop-at-init : goal.loop-at-init
loop-at-init c = subst (AreLeast (IsUsedBelow c.args.units.now c.args.externals.now 0)) (sym c.new-users.ensures) (users_none c.args.units.now c.args.externals.now)

pub entity_at-requires : goal.entity_at-requires
entity_at-requires c =
    let es = c.args.externals.now in
    let n = c.loop-at.at-index in
    let known = known_external c.args.units.now es n (get_or es n none) c.requires (slice_get-get_or es n none c.loop-at-test.true) in
    (known.0, known.1.of)

pub loop-at-preserved : goal.loop-at-preserved
loop-at-preserved c =
    let es = c.args.externals.now in
    let n = c.loop-at.at-index in
    users_turn c.args.units.now es n (get_or es n none) c.entity_at.result.now c.requires (slice_get-get_or es n none c.loop-at-test.true) c.entity_at.ensures c.loop-at.users c.note_use.new.users c.loop-at.invariant
    c.in_ok-note_use.ensures

pub returns : goal.returns
returns c = users_all c.args.units.now c.args.externals.now c.loop-at.users c.loop-at.at-index c.requires (omega arith) c.loop-at.invariant
