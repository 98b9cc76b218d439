use Rattle.std.proofs.Common.{◌≡◌, ◌∙◌, sym, ap}
use Rattle.std.specs.Prelude.{min}
use Rattle.lk_label.proofs.HolderNumbers.{number_again, number_there}
use Rattle.lk_label.proofs.entries.number_of.Goals as goal

pub returns-in-Some : goal.returns-in-Some
returns-in-Some c = λ n is.
    let same : n ≡ c.in-Some.number = number_again c.args.points.now c.args.holders.now c.args.holder c.in-Some.number n c.requires.holders c.in-Some.ensures is in
    c.min.ensures ∙ ap (λ k. min k 4294967295) (sym same)

pub returns-in-None : goal.returns-in-None
returns-in-None c = absurd (number_there c.args.points.now c.args.holders.now c.args.holder c.requires.holders c.requires.holder c.in-None.ensures)
