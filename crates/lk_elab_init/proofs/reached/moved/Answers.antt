use Rattle.std.proofs.Common.{◌∙◌, sym, ap}
use Rattle.lk_typed.specs.Typing.{Inside}
use Rattle.lk_elab_init.proofs.Reaching.{moved_there}
use Rattle.lk_elab_init.specs.Reaching.{address_in, position_in}
use Rattle.lk_elab_init.proofs.reached.moved.Goals as goal

pub returns-in-Inside : goal.returns-in-Inside
returns-in-Inside c = λ a moves kept.
    let position = position_in c.in-Inside.place in
    moved_there position a c.args.there (moves position (ap address_in c.in-Inside.is)) kept ∙ ap Inside (sym c.moved.ensures)
