use Rattle.lk_checker.proofs.LetThrough.{let_through}
use Rattle.lk_elaborate.specs.Externals.{MakesExternals}
use Rattle.lk_elaborate.specs.Outside.{GoesOutside}
use Rattle.lk_elaborate.proofs.unit.all_externals.Goals as goal

pub returns-clause-makes : goal.returns-clause-makes
returns-clause-makes c =
    let_through c.externals-made.result c.externals-made.new.walk c.and.result c.and.ensures (λ behind. MakesExternals c.args.walk behind c.args.list.now) c.externals-made.ensures.makes

pub returns-clause-goes : goal.returns-clause-goes
returns-clause-goes c =
    let_through c.externals-made.result c.externals-made.new.walk c.and.result c.and.ensures (GoesOutside c.args.walk) c.externals-made.ensures.goes
