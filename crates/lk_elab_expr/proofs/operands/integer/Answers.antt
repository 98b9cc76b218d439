use Rattle.std.proofs.Common.{◌∙◌, sym, ap, subst}
use Rattle.lk_types.specs.Table.{IsKnown}
use Rattle.lk_typed.specs.Meaning.{meaning}
use Rattle.lk_typed.proofs.FirstTypes.{kind_known, kind_means}
use Rattle.lk_elab_expr.proofs.operands.integer.Goals as goal

pub returns-clause-known : goal.returns-clause-known
returns-clause-known c = λ table ready. subst (IsKnown table) (sym c.of_kind.ensures) (kind_known table ready c.args.kind)

pub returns-clause-means : goal.returns-clause-means
returns-clause-means c = λ table ready. ap (meaning table) c.of_kind.ensures ∙ kind_means table ready c.args.kind
