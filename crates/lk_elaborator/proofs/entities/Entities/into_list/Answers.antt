use Rattle.std.proofs.Common.{◌≡◌, ◌<◌, ◌∙◌, length, slice_get, get_or, sym, ap, subst, arith}
use Rattle.std.proofs.lemmas.Option.{slice_get-get_or, slice_get_within}
use Rattle.lk_types.proofs.GrowLemmas.{longer_then}
use Rattle.lk_elaborator.proofs.Finishing.{finished_more, others_more, set_length, written_back}
use Rattle.lk_elaborator.specs.Gathering.{AreFinished}
use Rattle.lk_elaborator.proofs.entities.Entities.into_list.Goals as goal

pub loop-entity-preserved : goal.loop-entity-preserved
loop-entity-preserved c =
    let was = c.loop-entity.invariant in
    let now = c.in_ok-finish.ensures in
    let old = c.loop-entity.types in
    let new = c.finish.new.types in
    let uses = c.args.records.now.first_uses in
    let were = c.deref_mut-entity-items.result.now in
    let items = c.loop-entity.entity-items in
    let index = c.loop-entity.entity-index in
    let is = get_or items index c.entity-item.result in
    let made = c.finish.new.entity in
    let within : index < length items = let same = was.same in let test = c.loop-entity-test.true in omega (arith, same, test) in
    let here = slice_get-get_or items index c.entity-item.result within in
    record {
      few = now.few;
      longer = longer_then c.args.types.now old new was.longer now.longer;
      members = now.members ∙ was.members;
      ready = λ ready. now.ready (was.ready ready);
      same = set_length items index made ∙ was.same;
      finished = λ ready. finished_more old new uses were items index is made now.longer here (was.finished ready) was.others (now.finished (was.ready ready));
      others = others_more were items index made was.others;
    }

pub returns-clause-finished : goal.returns-clause-finished
returns-clause-finished c = λ ready.
    let was = c.loop-entity.invariant in
    let types = c.loop-entity.types.types in
    let uses = c.args.records.now.first_uses in
    let were = c.args.self.list.items in
    let items = c.loop-entity.entity-items in
    let value = c.deref_mut-entity-items.ensures.value in
    let same = was.same ∙ ap length value in
    let whole : c.args.self.list.len ≡ length were = omega (arith, c.args.self.list.ok.0) in
    subst (AreFinished types uses were) (sym (written_back c.args.self.list.len items were whole same))
    (record {
      same = same;
      each = λ e one entity at_were at_now.
          let within = slice_get_within items e entity at_now in
          let all = c.loop-entity-test.false in
          was.finished ready e one entity (omega (arith, within, all, was.same)) (ap (λ xs. slice_get xs e) value ∙ at_were) at_now;
    })
