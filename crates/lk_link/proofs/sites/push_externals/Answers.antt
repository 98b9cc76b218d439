use Rattle.std.proofs.Common.{◌≡◌, Some, arith, length}
use Rattle.std.specs.List.{slice_get}
use Rattle.lk_types.proofs.KeptLemmas.{read_got}
use Rattle.lk_typed.specs.declared.entity.Entity.{Entity}
use Rattle.lk_link.specs.Sites.{IsExternalAt}
use Rattle.lk_link.proofs.Growing.{grows_more, grows_at_number, grows_all}
use Rattle.lk_link.proofs.sites.push_externals.Goals as goal

pub loop-number-preserved : goal.loop-number-preserved
loop-number-preserved c =
    let n = c.loop-number.number in
    let es = c.args.entities.now in
    let at = read_got es n c.index-entities-number.result (omega arith) c.index-entities-number.is in
    grows_more (λ i at. (entity : Entity) × (slice_get es i ≡ Some entity) × IsExternalAt c.args.source i entity at) n c.args.all.now.items c.loop-number.all.items c.push_external.new.all.items c.loop-number.invariant
    (grows_at_number (IsExternalAt c.args.source) es n c.index-entities-number.result at c.loop-number.all.items c.push_external.new.all.items c.in_ok-push_external.ensures)

pub returns : goal.returns
returns c =
    let es = c.args.entities.now in
    grows_all (λ i at. (entity : Entity) × (slice_get es i ≡ Some entity) × IsExternalAt c.args.source i entity at) c.loop-number.number (length es) c.args.all.now.items c.loop-number.all.items (omega arith) c.loop-number.invariant
