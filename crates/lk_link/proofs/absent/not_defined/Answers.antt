use Rattle.std.proofs.Common.{sym, subst}
use Rattle.std.proofs.lemmas.Result.{IfOk-weaker}
use Rattle.lk_link.specs.Sites.{AreExternals}
use Rattle.lk_link.proofs.absent.not_defined.Goals as goal

pub users-requires : goal.users-requires
users-requires c = subst (AreExternals c.args.units.now) (sym c.externals.ensures) c.requires.externals

pub returns : goal.returns
returns c = IfOk-weaker c.clashes_of.result _ _ (λ _ found. found c.args.externs.now c.in_ok-listed.ensures) c.clashes_of.ensures
