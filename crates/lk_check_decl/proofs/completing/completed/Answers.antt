use Rattle.lk_typed.specs.Meaning.{meaning}
use Rattle.lk_check_decl.proofs.GivenSizes.{sized_means}
use Rattle.lk_check_decl.proofs.completing.completed.Goals as goal

pub returns-in_ok-made-in-Some-clause-means : goal.returns-in_ok-made-in-Some-clause-means
returns-in_ok-made-in-Some-clause-means c =
    sized_means c.args.types.now c.sized.new.types c.is_table.ensures c.args.t c.requires (meaning c.args.types.now c.in-Some.element) c.in-Some.ensures.value c.args.size c.in_ok-made-in-Some.made
    c.in_ok-made-in-Some.ensures.ok
