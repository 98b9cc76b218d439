use Rattle.std.proofs.Common.{◌∙◌, inl, inr, sym}
use Rattle.std.proofs.lemmas.Result.{IfOk-weaker}
use Rattle.lk_flow.proofs.FieldLists.{no_code}
use Rattle.lk_flow.proofs.close.put_functions.Goals as goal

pub returns-then-not-is_code : goal.returns-then-not-is_code
returns-then-not-is_code c = λ u v ends. no_code c.args.points.now c.args.labels.now.names u v c.args.edge.now.mark c.args.found.now (inl (sym (c.is_code.ensures u ends.begins) ∙ c.if-not-is_code.true))

pub returns-then-not-is_code-2 : goal.returns-then-not-is_code-2
returns-then-not-is_code-2 c = λ u v ends. no_code c.args.points.now c.args.labels.now.names u v c.args.edge.now.mark c.args.found.now (inr (sym (c.is_code-2.ensures v ends.ends) ∙ c.if-not-is_code-2.true))

pub returns : goal.returns
returns c =
    IfOk-weaker c.put_code.result _ _ (λ _ adds u v ends. adds u v (record { ends = ends; from = sym (c.is_code.ensures u ends.begins) ∙ c.if-not-is_code.false; to = sym (c.is_code-2.ensures v ends.ends) ∙ c.if-not-is_code-2.false })) c.put_code.ensures
