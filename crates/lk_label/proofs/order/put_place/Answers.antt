use Rattle.std.proofs.lemmas.Result.{IfOk-weaker}
use Rattle.lk_label.proofs.NameLists.{place_more}
use Rattle.lk_label.proofs.order.put_place.Goals as goal

pub returns : goal.returns
returns c = IfOk-weaker c.put_known.result _ _ (λ _ puts before. place_more c.args.points.now c.args.names.now c.args.found.now c.put_known.new.found c.args.n c.place-root.result c.place-root.ensures.value puts before) c.put_known.ensures
