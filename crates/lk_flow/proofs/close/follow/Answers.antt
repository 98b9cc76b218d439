use Rattle.std.proofs.lemmas.Result.{IfOk-weaker}
use Rattle.lk_flow.proofs.FieldLists.{all_next}
use Rattle.lk_flow.proofs.close.follow.Goals as goal

pub returns : goal.returns
returns c =
    IfOk-weaker c.put_functions.result _ _ (λ _ adds u v ends. all_next c.args.points.now c.args.labels.now.names u v c.args.edge.now.mark c.args.found.now c.put_targets.new.found c.put_inside.new.found c.put_fields.new.found c.put_parts.new.found c.put_functions.new.found
    (c.in_ok-put_targets.ensures u v ends) (c.in_ok-put_inside.ensures u v ends) (c.in_ok-put_fields.ensures u v ends) (c.in_ok-put_parts.ensures u v ends) (adds u v ends)) c.put_functions.ensures
