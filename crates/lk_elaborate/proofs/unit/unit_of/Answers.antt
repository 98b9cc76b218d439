use Rattle.std.proofs.Common.{◌∙◌, ap, subst, sym}
use Rattle.std.proofs.lemmas.Result.{IfOk-at_ok}
use Rattle.lk_elaborator.specs.Gathering.{AreFinished}
use Rattle.lk_elaborate.proofs.unit.unit_of.Goals as goal

pub returns : goal.returns
returns c =
    let is = IfOk-at_ok _ c.in_ok-finished.ensures.made c.finish-made.ensures in
    let types = c.in_ok-finished.finished.types in
    let same = c.in_ok-finished.ensures.other in
    record {
      longer = is.longer;
      members = is.members;
      ready = is.ready;
      parts = is.parts;
      finished = λ ready. subst (AreFinished types.types c.args.rest.records.first_uses c.args.entities.list.items) (sym c.new-2.ensures) (is.finished ready);
      tags = c.new.ensures ∙ c.tags.ensures ∙ ap (λ rest. rest.records.tags) same;
      objects = ap (λ rest. rest.objects) same;
      bodies = ap (λ rest. rest.bodies) same;
    }
