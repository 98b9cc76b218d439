use Rattle.std.proofs.Common.{◌≡◌, ◌∙◌, ap, sym, arith}
use Rattle.lk_sets.specs.Rows.{has}
use Rattle.lk_sets.specs.Words.{bit_in, place_of}
use Rattle.lk_sets.proofs.Square.{has-seen}
use Rattle.lk_sets.proofs.bit_rows.BitRows.has.Goals as goal

pub returns : goal.returns
returns c =
    let n = c.self.inside.size in
    let words = c.self.inside.words.items in
    let size : n ≡ c.args.self.now.size = ap (λ r. r.size) c.self.view_is in
    c.has_bit.ensures
    ∙ ap (λ w. bit_in w c.place.result) c.deref.ensures.value
    ∙ ap (bit_in words) (c.place.ensures ∙ ap (λ m. place_of m c.args.a c.args.b) (sym size))
    ∙ sym (has-seen n words c.args.a c.args.b (omega arith) (omega arith))
    ∙ ap (λ r. has r c.args.a c.args.b) c.self.view_is
