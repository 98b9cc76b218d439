use Rattle.std.proofs.Common.{◌∙◌, sym, subst}
use Rattle.std.proofs.lemmas.Result.{IfOk-weaker}
use Rattle.lk_elaborator.specs.Standing.{IsConversion}
use Rattle.lk_elaborator.proofs.Owned.{own_of}
use Rattle.lk_elaborator.proofs.values.converted_node.Goals as goal

pub returns-in-Null : goal.returns-in-Null
returns-in-Null c = λ tables folded p typed.
    let own = own_of tables folded p c.args.node typed in
    let is = c.null_node.ensures in
    subst (λ made. IsConversion tables folded p made c.null_node.result) (sym c.in-Null.is)
    (record { spot = is.spot ∙ own.spot; ordinal = is.ordinal ∙ own.ordinal; type = is.type; made = is.made })

pub returns-in-Made : goal.returns-in-Made
returns-in-Made c = IfOk-weaker c.made_node.result _ _ (λ t is tables folded p typed.
    subst (λ made. IsConversion tables folded p made t) (sym c.in-Made.is) (record { itself = c.args.node; typed = typed; made = is })) c.made_node.ensures
