use Rattle.std.proofs.Common.{◌≡◌, ◌*◌, ◌∙◌, ap, replicate}
use Rattle.lk_sets.specs.Words.{width_of}
use Rattle.lk_sets.proofs.Square.{empty-seen, rows-zeros, square-seen}
use Rattle.lk_sets.proofs.bit_rows.BitRows.new.Goals as goal
use Rattle.lk_sets.proofs.bit_rows.BitRows.new.Goals.{In_ok-words}

zeros : (c : In_ok-words) → c.in_ok-words.words.items ≡ replicate (c.args.size * width_of c.args.size) 0
zeros c = c.in_ok-words.ensures.items_if_clones_equal (λ y h. h) ∙ ap (λ w. replicate (c.args.size * w) 0) c.width.ensures

pub returns-clause-empty : goal.returns-clause-empty
returns-clause-empty c = empty-seen c.args.size _ c.in_ok-words.words.items (zeros c)

pub returns-clause-square : goal.returns-clause-square
returns-clause-square c =
    square-seen c.args.size c.in_ok-words.words.items (rows-zeros c.args.size c.in_ok-words.words.items c.requires (zeros c))
