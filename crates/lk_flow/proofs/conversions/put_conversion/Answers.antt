use Rattle.std.proofs.lemmas.Result.{IfOk-weaker}
use Rattle.lk_flow.proofs.ConversionLists.{converts_both}
use Rattle.lk_flow.proofs.conversions.put_conversion.Goals as goal

pub returns : goal.returns
returns c =
    IfOk-weaker c.put_pointers.result _ _ (λ _ adds. converts_both c.args.points.now c.args.labels.now.names c.args.a c.in-Some.s c.args.p c.in-Some-value_type.t c.args.found.now c.put_alike.new.found c.put_pointers.new.found
    c.in-Some.ensures.value c.in-Some-value_type.ensures.value c.in_ok-put_alike.ensures adds) c.put_pointers.ensures
